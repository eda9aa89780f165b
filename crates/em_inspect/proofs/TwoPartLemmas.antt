-- Octets that are given in two parts.
use Rattle.std.proofs.Common.{◌≡◌, ◌≤◌, ℕ, ◌+◌, ◌-◌, ◌*◌, List, [], ◌∷◌, ◌++◌, length, take, drop, min, replicate, refl}
use Rattle.std.proofs.Common.{ap, ◌∙◌, arith, append_assoc, length-append, zero, suc}
use Rattle.std.proofs.lemmas.List.{length-drop, length-take, take_rest}
use Rattle.std.proofs.lemmas.List.Concat.{flat_map-append}
use Rattle.std.specs.Prelude.{codes}
use Rattle.std.specs.List.{flat_map}
use Rattle.em_mem.specs.Memory.{part}
use Rattle.em_inspect.specs.declared.piece.Cell.TheVariants.{Behind, Character}
use Rattle.em_inspect.specs.AddressText.{address_text}
use Rattle.em_inspect.specs.Piece.{cell_text}
use Rattle.em_inspect.specs.Lines.{line_text}

-- the first octets of two lists, one behind the other
take_of_two : (n : ℕ) (a b : List ℕ) → take n (a ++ b) ≡ take n a ++ take (n - length a) b
take_of_two zero [] b = refl
take_of_two (suc n) [] b =
    let all : suc n ≡ suc n - 0 = omega arith in ap (λ (m : ℕ). take m b) all
take_of_two zero (x ∷ a) b =
    let none : 0 ≡ 0 - suc (length a) = omega arith in ap (λ (m : ℕ). take m b) none
take_of_two (suc n) (x ∷ a) b =
    let same : n - length a ≡ suc n - suc (length a) = omega arith in
    ap (λ (l : List ℕ). x ∷ l) (take_of_two n a b) ∙ ap (λ (m : ℕ). (x ∷ take n a) ++ take m b) same

-- those behind them
drop_of_two : (n : ℕ) (a b : List ℕ) → drop n (a ++ b) ≡ drop n a ++ drop (n - length a) b
drop_of_two zero [] b = refl
drop_of_two (suc n) [] b =
    let all : suc n ≡ suc n - 0 = omega arith in ap (λ (m : ℕ). drop m b) all
drop_of_two zero (x ∷ a) b =
    let none : 0 ≡ 0 - suc (length a) = omega arith in ap (λ (m : ℕ). (x ∷ a) ++ drop m b) none
drop_of_two (suc n) (x ∷ a) b =
    let same : n - length a ≡ suc n - suc (length a) = omega arith in
    drop_of_two n a b ∙ ap (λ (m : ℕ). drop n a ++ drop m b) same

-- octets of two lists, one behind the other
pub part_of_two : (a b : List ℕ) (from n : ℕ)
    → part (a ++ b) from n ≡ part a from n ++ part b (from - length a) (n - (length a - from))
part_of_two a b from n =
    ap (λ (l : List ℕ). take n l) (drop_of_two from a b)
    ∙ take_of_two n (drop from a) (drop (from - length a) b)
    ∙ ap (λ (m : ℕ). take n (drop from a) ++ take (n - m) (drop (from - length a) b)) (length-drop from a)

-- there are so many at most
pub few_of_two : (a b front back : List ℕ) (from n : ℕ) → front ≡ part a from n
    → back ≡ part b (from - length a) (n - (length a - from)) → length front + length back ≤ n
few_of_two a b front back from n ef eb =
    let at_front : length front ≡ min n (length a - from)
    = ap (λ (l : List ℕ). length l) ef ∙ length-take n (drop from a) ∙ ap (λ (m : ℕ). min n m) (length-drop from a) in
    let rest = drop (from - length a) b in
    let at_back : length back ≡ min (n - (length a - from)) (length rest)
    = ap (λ (l : List ℕ). length l) eb ∙ length-take (n - (length a - from)) rest in
    omega arith

-- the text of a line whose octets are given in two parts
pub line_of_two : (address : ℕ) (a b : List ℕ)
    → let n = 3 * (length a + length b) in
    address_text address
    ++ (codes " "
    ++ (flat_map (cell_text (Behind 32)) a
    ++ (flat_map (cell_text (Behind 32)) b
    ++ (take (48 - n) (drop n (replicate 48 32))
    ++ (codes "  " ++ (flat_map (cell_text Character) a ++ (flat_map (cell_text Character) b ++ codes "\n")))))))
    ≡ line_text address (a ++ b)
line_of_two address a b =
    let rest = take_rest {X = ℕ} (replicate 48 32) (3 * (length a + length b)) in
    let cells = flat_map-append (cell_text (Behind 32)) a b in
    let characters = flat_map-append (cell_text Character) a b in
    let size = length-append a b in
    rw (rest, cells, characters, size, append_assoc, append_assoc) refl
