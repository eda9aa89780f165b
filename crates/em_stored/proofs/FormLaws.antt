-- One thing more of a list that is written, and one page more.
use Rattle.std.proofs.Common.{◌≡◌, ℕ, ◌+◌, ◌-◌, ◌*◌, ◌<◌, ◌≤◌, suc, List, [], ◌∷◌, ◌++◌, length, take, drop, get_or}
use Rattle.std.proofs.Common.{sym, ap, ◌∙◌, arith, append_assoc}
use Rattle.std.proofs.lemmas.List.{take_more, take_all, drop-drop, flat_map_more}
use Rattle.std.specs.List.{flat_map}
use Rattle.em_stored.specs.Form.{page_form, pages_form}

-- behind those that were written
pub written_more : {A : Type 0} (form : A → List ℕ) (front before after : List ℕ) (xs : List A) (i : ℕ) (x d : A)
    → i < length xs → x ≡ get_or xs i d → before ≡ front ++ flat_map form (take i xs) → after ≡ before ++ form x
    → after ≡ front ++ flat_map form (take (i + 1) xs)
written_more form front before after xs i x d lt is b a =
    a ∙ ap (λ (t : List ℕ). t ++ form x) b ∙ flat_map_more form front (take i xs) x
    ∙ ap (λ ys. front ++ flat_map form ys) (ap (λ y. take i xs ++ y ∷ []) is ∙ sym (take_more xs i d lt))

-- all were written
pub written_all : {A : Type 0} (form : A → List ℕ) (front after : List ℕ) (xs : List A) (i : ℕ) → length xs ≤ i
    → after ≡ front ++ flat_map form (take i xs) → after ≡ front ++ flat_map form xs
written_all form front after xs i le e = e ∙ ap (λ ys. front ++ flat_map form ys) (take_all i xs le)

-- the page at a place, and those behind it
pub page_more : (n k : ℕ) (octets : List ℕ) → k < n
    → pages_form (n - k) (drop (4096 * k) octets)
    ≡ page_form (take 4096 (drop (4096 * k) octets)) ++ pages_form (n - (k + 1)) (drop (4096 * (k + 1)) octets)
page_more n k octets lt =
    let left : n - k ≡ suc (n - (k + 1)) = omega arith in
    let at : 4096 * k + 4096 ≡ 4096 * (k + 1) = omega arith in
    ap (λ m. pages_form m (drop (4096 * k) octets)) left
    ∙ ap (λ (t : List ℕ). page_form (take 4096 (drop (4096 * k) octets)) ++ pages_form (n - (k + 1)) t)
    (drop-drop 4096 (4096 * k) octets ∙ ap (λ m. drop m octets) at)

-- it is written
pub page_written : (n k : ℕ) (octets before after all : List ℕ) → k < n
    → before ++ pages_form (n - k) (drop (4096 * k) octets) ≡ all
    → after ≡ before ++ page_form (take 4096 (drop (4096 * k) octets))
    → after ++ pages_form (n - (k + 1)) (drop (4096 * (k + 1)) octets) ≡ all
page_written n k octets before after all lt b a =
    let page = page_form (take 4096 (drop (4096 * k) octets)) in
    let rest = pages_form (n - (k + 1)) (drop (4096 * (k + 1)) octets) in
    ap (λ (t : List ℕ). t ++ rest) a ∙ append_assoc before page rest
    ∙ ap (λ (t : List ℕ). before ++ t) (sym (page_more n k octets lt)) ∙ b

-- two things, one behind the other
pub two : (before between after first second : List ℕ) → between ≡ before ++ first → after ≡ between ++ second
    → after ≡ before ++ (first ++ second)
two before between after first second e f = f ∙ ap (λ (t : List ℕ). t ++ second) e ∙ append_assoc before first second
