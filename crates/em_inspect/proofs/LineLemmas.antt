-- Texts of the numbers from 0 on, one after another.
use Rattle.std.proofs.Common.{◌≡◌, ℕ, ◌+◌, ◌-◌, ◌<◌, List, ◌∷◌, ◌++◌, Option, refl}
use Rattle.std.proofs.Common.{sym, ap, ◌∙◌, arith, append-nil, zero, suc, zero-add, add-zero}
use Rattle.std.proofs.lemmas.List.Concat.{flat_map-append}
use Rattle.std.specs.List.{flat_map, range_with_len}
use Rattle.std.specs.Io.KnownBytes.{Appends}
use Rattle.em_text.specs.Writer.{WritesPart}
use Rattle.em_text.proofs.WritingLemmas.{Appends-more, WritesPart-front, WritesPart-more}

-- the numbers from a on, cut in two
range-append : (a n m : ℕ) → range_with_len a (n + m) ≡ range_with_len a n ++ range_with_len (a + n) m
range-append a zero m = ap (range_with_len a) (zero-add m) ∙ ap (λ x. range_with_len x m) (sym (add-zero a))
range-append a (suc n) m =
    let longer : suc n + m ≡ suc (n + m) = omega arith in
    let later : (a + 1) + n ≡ a + suc n = omega arith in
    ap (range_with_len a) longer ∙ ap (λ l. a ∷ l) (range-append (a + 1) n m)
    ∙ ap (λ x. (a ∷ range_with_len (a + 1) n) ++ range_with_len x m) later

-- the texts of n numbers, cut around that of k
texts_at : (f : ℕ → List ℕ) (n k : ℕ) → k < n
    → flat_map f (range_with_len 0 n)
    ≡ flat_map f (range_with_len 0 k) ++ (f k ++ flat_map f (range_with_len (k + 1) (n - (k + 1))))
texts_at f n k lt =
    let rest = n - (k + 1) in
    let whole : n ≡ k + suc rest = omega arith in
    ap (λ m. flat_map f (range_with_len 0 m)) whole ∙ ap (flat_map f) (range-append 0 k (suc rest))
    ∙ flat_map-append f (range_with_len 0 k) (range_with_len (0 + k) (suc rest))
    ∙ ap (λ x. flat_map f (range_with_len 0 k) ++ flat_map f (range_with_len x (suc rest))) (zero-add k)

-- the text of one more number was written
pub Appends-next : (a b c : Option (List ℕ)) (f : ℕ → List ℕ) (k : ℕ) → Appends a b (flat_map f (range_with_len 0 k))
    → Appends b c (f k) → Appends a c (flat_map f (range_with_len 0 (k + 1)))
Appends-next a b c f k p q =
    let before = flat_map f (range_with_len 0 k) in
    let none : (k + 1) - (k + 1) ≡ 0 = omega arith in
    Appends-more a b c before (f k) _ p q
    (texts_at f (k + 1) k (omega arith)
    ∙ ap (λ n. before ++ (f k ++ flat_map f (range_with_len (k + 1) n))) none
    ∙ ap (λ text. before ++ text) (append-nil (f k)))

-- a part of the text of one of them was
pub WritesPart-next : {a b c : Option (List ℕ)} (f : ℕ → List ℕ) (n k : ℕ) → k < n
    → Appends a b (flat_map f (range_with_len 0 k)) → WritesPart b c (f k)
    → WritesPart a c (flat_map f (range_with_len 0 n))
WritesPart-next f n k lt p q =
    WritesPart-more (flat_map f (range_with_len 0 k)) p
    (WritesPart-front (flat_map f (range_with_len (k + 1) (n - (k + 1)))) q refl) (texts_at f n k lt)
