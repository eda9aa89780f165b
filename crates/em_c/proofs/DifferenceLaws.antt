-- Where two lists differ.
use Rattle.std.proofs.Common.{◌≡◌, ℕ, ◌+◌, ◌-◌, ◌≤◌, ◌<◌, ◌++◌, zero, suc, false, ◌==◌, List, [], ◌∷◌, length, take, drop, get_or, sym, ap, ◌∙◌, subst}
use Rattle.std.proofs.Common.{arith, refl, inl, inr}
use Rattle.std.proofs.lemmas.Bool.{eq-eqb, ne_eqb}
use Rattle.std.proofs.lemmas.List.{drop-drop, take-append-drop}
use Rattle.std.proofs.lemmas.Bool.{cases_lt}
use Rattle.em_c.specs.Difference.{same_at_head, up_to_last, counted}

-- octets that are the same up to a place, and there not
pub head_is : (xs ys : List ℕ) (k : ℕ) → length xs ≡ length ys → k ≤ length xs → take k xs ≡ take k ys
    → (k < length xs → get_or xs k 0 ≡ get_or ys k 0 → ⊥) → same_at_head xs ys ≡ k
unfolding same_at_head
head_is [] ys k size within same differ = omega arith
head_is (x ∷ xs) [] k size within same differ = omega arith
head_is (x ∷ xs) (y ∷ ys) zero size within same differ = rw (ne_eqb x y (differ (omega arith))) refl
head_is (x ∷ xs) (y ∷ ys) (suc k) size within same differ =
    rw (eq-eqb x y (ap (λ l. get_or l 0 0) same))
    (ap suc (head_is xs ys k (omega arith) (omega arith) (ap (drop 1) same) (λ lt. differ (omega arith))))

-- octets that are the same from a place on, and right before it not
pub last_is : (xs ys : List ℕ) (k : ℕ) → length xs ≡ length ys → k ≤ length xs → drop k xs ≡ drop k ys
    → (0 < k → get_or xs (k - 1) 0 ≡ get_or ys (k - 1) 0 → ⊥) → up_to_last xs ys ≡ k
unfolding up_to_last
last_is [] ys k size within same differ = omega arith
last_is (x ∷ xs) [] k size within same differ = omega arith
last_is (x ∷ xs) (y ∷ ys) zero size within same differ =
    rw (eq-eqb x y (ap (λ l. get_or l 0 0) same))
    (rw (last_is xs ys 0 (omega arith) (omega arith) (ap (drop 1) same) (λ lt. omega arith)) refl)
last_is (x ∷ xs) (y ∷ ys) (suc zero) size within same differ =
    rw (ne_eqb x y (differ (omega arith)))
    (ap (λ n. counted n false) (last_is xs ys 0 (omega arith) (omega arith) same (λ lt. omega arith)))
last_is (x ∷ xs) (y ∷ ys) (suc (suc k)) size within same differ =
    let up : suc (suc k) - 1 ≡ suc (suc k - 1) = omega arith in
    ap (λ n. counted n (x == y)) (last_is xs ys (suc k) (omega arith) (omega arith) same
    (λ lt is. differ (omega arith) (subst (λ n. get_or (x ∷ xs) n 0 ≡ get_or (y ∷ ys) n 0) (sym up) is)))

-- where no place differs, nothing is counted
pub last_none : (xs : List ℕ) → up_to_last xs xs ≡ 0
last_none xs = last_is xs xs 0 refl (omega arith) refl (λ lt. absurd (omega arith))

-- where the same octets follow a place, they are the same from each later place on
same_behind : (xs ys : List ℕ) (f e : ℕ) → drop e xs ≡ drop e ys → e ≤ f → drop f xs ≡ drop f ys
same_behind xs ys f e same le =
    let whole : e + (f - e) ≡ f = omega arith in
    subst (λ k. drop k xs ≡ drop k ys) whole
    (sym (drop-drop (f - e) e xs) ∙ ap (drop (f - e)) same ∙ drop-drop (f - e) e ys)

-- head and tail make a list
pub same_list : (xs ys : List ℕ) (f e : ℕ) → take f xs ≡ take f ys → drop e xs ≡ drop e ys → e ≤ f → xs ≡ ys
same_list xs ys f e head tail le =
    sym (take-append-drop f xs) ∙ (λ i. head i ++ same_behind xs ys f e tail le i) ∙ take-append-drop f ys

-- of octets that are not the same, the first that differs lies before the end of the last
pub first_before_last : (xs ys : List ℕ) (f e : ℕ) → take f xs ≡ take f ys → drop e xs ≡ drop e ys → (xs ≡ ys → ⊥)
    → f < e
first_before_last xs ys f e head tail differ = elim (cases_lt f e) [
  | inl before ↦ before
  | inr not_before ↦ absurd (differ (same_list xs ys f e head tail not_before))
]
