-- The registers that are not zero, word by word.
use Rattle.std.proofs.Common.{◌≡◌, ℕ, ◌+◌, ◌-◌, ◌*◌, ◌<◌, ◌≤◌, ◌++◌, zero, suc, List, [], ◌∷◌, length, drop, refl, sym, ap, ◌∙◌}
use Rattle.std.proofs.Common.{subst, arith}
use Rattle.std.specs.Prelude.{slice_set}
use Rattle.std.proofs.lemmas.List.{length-append, length-drop, append-nil, append_assoc}
use Rattle.em_journal.specs.View.{View}
use Rattle.em_c.specs.declared.all_registers.EmRegister.{EmRegister}
use Rattle.em_c.specs.AllRegisters.{put_at, registers_below, shown}
use Rattle.em_c.specs.Looks.{value_at}

pub none_below : (v : View) → registers_below 0 v ≡ []
unfolding registers_below
none_below v = refl

-- those of the next word come last
pub below_next : (k : ℕ) (v : View)
    → registers_below (k + 1) v ≡ registers_below k v ++ shown (4 * k) (value_at (4 * k) v)
unfolding registers_below
below_next k v =
    let step : k + 1 ≡ suc k = omega arith in
    ap (λ n. registers_below n v) step

more_below : (k d : ℕ) (v : View) → length (registers_below k v) ≤ length (registers_below (k + d) v)
unfolding registers_below
more_below k zero v =
    let same : k + 0 ≡ k = omega arith in
    subst (λ n. length (registers_below k v) ≤ length (registers_below n v)) (sym same) (omega arith)
more_below k (suc d) v =
    let step : k + suc d ≡ suc (k + d) = omega arith in
    let more : registers_below (k + suc d) v
    ≡ registers_below (k + d) v ++ shown (4 * (k + d)) (value_at (4 * (k + d)) v)
    = ap (λ n. registers_below n v) step in
    omega (
      arith,
      more_below k d v,
      ap length more,
      length-append (registers_below (k + d) v) (shown (4 * (k + d)) (value_at (4 * (k + d)) v)),
    )

-- of fewer words there are no more
pub fewer_below : (k n : ℕ) (v : View) → k ≤ n → length (registers_below k v) ≤ length (registers_below n v)
fewer_below k n v le =
    let same : k + (n - k) ≡ n = omega arith in
    subst (λ m. length (registers_below k v) ≤ length (registers_below m v)) same (more_below k (n - k) v)

-- of one word more there are as many as in the words before it, and its own
pub length_next : (k : ℕ) (v : View) → length (registers_below (k + 1) v)
    ≡ length (registers_below k v) + length (shown (4 * k) (value_at (4 * k) v))
length_next k v =
    ap length (below_next k v) ∙ length-append (registers_below k v) (shown (4 * k) (value_at (4 * k) v))

-- one is put behind those that are there
pub put_next : (xs room : List EmRegister) (x : EmRegister) → length xs < length room
    → slice_set (xs ++ drop (length xs) room) (length xs) x ≡ (xs ++ x ∷ []) ++ drop (length xs + 1) room
put_next [] [] x lt = absurd (omega arith)
put_next [] (y ∷ room) x lt = refl
put_next (z ∷ xs) [] x lt = absurd (omega arith)
put_next (z ∷ xs) (y ∷ room) x lt =
    let step : suc (length xs) + 1 ≡ suc (length xs + 1) = omega arith in
    ap (λ r. z ∷ r) (put_next xs room x (omega arith))
    ∙ ap (λ n. z ∷ ((xs ++ x ∷ []) ++ drop n (y ∷ room))) (sym step)

-- and so are several
put_all : (new xs room : List EmRegister) → length xs + length new ≤ length room
    → put_at (length xs) new (xs ++ drop (length xs) room) ≡ (xs ++ new) ++ drop (length (xs ++ new)) room
put_all [] xs room le =
    let same : xs ++ [] ≡ xs = append-nil xs in
    sym (ap (λ (l : List EmRegister). l ++ drop (length l) room) same)
put_all (r ∷ rest) xs room le =
    let more : List EmRegister = xs ++ r ∷ [] in
    let longer : length more ≡ length xs + 1 = length-append xs (r ∷ []) in
    let joined : more ++ rest ≡ xs ++ r ∷ rest = append_assoc xs (r ∷ []) rest in
    ap (put_at (length xs + 1) rest) (put_next xs room r (omega arith))
    ∙ ap (λ n. put_at n rest (more ++ drop n room)) (sym longer)
    ∙ put_all rest more room (omega (arith, longer))
    ∙ ap (λ (l : List EmRegister). l ++ drop (length l) room) joined

-- those of one word more lie at the head of the room
pub filled_next : (k : ℕ) (v : View) (room : List EmRegister) → length (registers_below (k + 1) v) ≤ length room
    → put_at (length (registers_below k v)) (shown (4 * k) (value_at (4 * k) v))
    (registers_below k v ++ drop (length (registers_below k v)) room)
    ≡ registers_below (k + 1) v ++ drop (length (registers_below (k + 1) v)) room
filled_next k v room le =
    put_all (shown (4 * k) (value_at (4 * k) v)) (registers_below k v) room (omega (arith, length_next k v))
    ∙ ap (λ (l : List EmRegister). l ++ drop (length l) room) (sym (below_next k v))

-- the room stays as large
pub length_filled : (xs room : List EmRegister) → length xs ≤ length room
    → length (xs ++ drop (length xs) room) ≡ length room
length_filled xs room le =
    omega (arith, length-append xs (drop (length xs) room), length-drop (length xs) room)
