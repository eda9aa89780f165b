-- Steps back, several at a time.
use Rattle.std.proofs.Common.{◌≡◌, ℕ, ◌+◌, ◌-◌, ◌≤◌, zero, suc, List, [], ◌∷◌, length, refl, sym, ap, ◌∙◌, subst, arith}
use Rattle.std.specs.Prelude.{replicate}
use Rattle.em_step.specs.State.{State}
use Rattle.em_journal.specs.View.{View, back_to, after_back, after_backs}
use Rattle.em_journal.specs.History.{Run, goes_back}

length-back_to : (past : List State) (v : View) → v.past ≡ past → length (back_to past v).past ≡ length past - 1
length-back_to [] v is = ap length is
length-back_to (s ∷ past) v is = omega arith

length-after_backs : (n : ℕ) (v : View) → length (after_backs n v).past ≡ length v.past - n
length-after_backs zero v = omega arith
length-after_backs (suc n) v = omega (arith, length-after_backs n (after_back v), length-back_to v.past v refl)

after_backs-suc : (n : ℕ) (v : View) → after_backs (suc n) v ≡ after_back (after_backs n v)
after_backs-suc zero v = refl
after_backs-suc (suc n) v = after_backs-suc n (after_back v)

after_backs_empty : (n : ℕ) (v : View) → v.past ≡ [] → after_backs n v ≡ v
after_backs_empty zero v none = refl
after_backs_empty (suc n) v none =
    let here : after_back v ≡ v = ap (λ past. back_to past v) none in
    ap (after_backs n) here ∙ after_backs_empty n v none

-- once the past is empty, further steps change nothing
after_backs_enough : (k n : ℕ) (v : View) → k ≤ n → (after_backs k v).past ≡ [] → after_backs n v ≡ after_backs k v
after_backs_enough zero n v l none = after_backs_empty n v none
after_backs_enough (suc k) zero v l none = absurd (omega arith)
after_backs_enough (suc k) (suc n) v l none = after_backs_enough k n (after_back v) (omega arith) none

-- each step but the last leaves a past
pub run_backs : (n : ℕ) (v : View) → n ≤ length v.past → Run v (replicate n goes_back) (after_backs n v)
run_backs zero v l = refl
run_backs (suc n) v l =
    let rest = run_backs n (after_back v) (omega (arith, length-back_to v.past v refl)) in
    (after_back v, (omega arith, refl), rest)

-- ---- as a loop takes them: k are done and left the view w

pub more_back : (k : ℕ) (v w next : View)
    → w ≡ after_backs k v → next ≡ after_back w → next ≡ after_backs (k + 1) v
more_back k v w next is back =
    let next_k : suc k ≡ k + 1 = omega arith in
    back ∙ ap after_back is ∙ sym (after_backs-suc k v) ∙ ap (λ n. after_backs n v) next_k

pub all_back : (k n : ℕ) (v w : View) → w ≡ after_backs k v → k ≤ n → n ≤ k → w ≡ after_backs n v
all_back k n v w is l r =
    let same : k ≡ n = omega arith in
    is ∙ ap (λ x. after_backs x v) same

pub no_more_back : (k n : ℕ) (v w : View) → w ≡ after_backs k v → k ≤ n → w.past ≡ [] → w ≡ after_backs n v
no_more_back k n v w is l none = is ∙ sym (after_backs_enough k n v l (ap (λ x. x.past) (sym is) ∙ none))

pub past_left : (k : ℕ) (v w : View) → w ≡ after_backs k v → length w.past ≡ length v.past - k
past_left k v w is = ap (λ x. length x.past) is ∙ length-after_backs k v

pub run_back : (k : ℕ) (v w : View) → k ≤ length v.past → w ≡ after_backs k v → Run v (replicate k goes_back) w
run_back k v w l is = subst (Run v (replicate k goes_back)) (sym is) (run_backs k v l)
