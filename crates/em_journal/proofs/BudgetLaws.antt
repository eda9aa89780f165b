-- How many records a budget holds.
use Rattle.std.proofs.Common.{◌≡◌, ℕ, ◌+◌, ◌-◌, ◌*◌, ◌/◌, ◌≤◌, ◌<◌, zero, suc, List, [], ◌∷◌, length, take, Some}
use Rattle.std.proofs.Common.{◌⊎◌, inl, inr, refl, ap, ◌∙◌, sym, arith}
use Rattle.std.specs.Prelude.{slice_get, sum}
use Rattle.std.proofs.lemmas.Bool.Decides.{nat_tests}
use Rattle.std.proofs.lemmas.List.{length-take-le, take-take}
use Rattle.std.proofs.lemmas.List.Sums.{sum_by-cons}
use Rattle.circular_buffer.specs.Buffer.{last_item}
use Rattle.em_step.specs.Undo.{Undo}
use Rattle.em_step.specs.Cost.{least_cost, cost_by, cost_of}
use Rattle.em_step.specs.declared.undo.Record.{Record}
use Rattle.em_step.proofs.CostLaws.{cost_by_least}
use Rattle.em_journal.specs.Records.{costs_by, costs_of}
use Rattle.em_journal.specs.View.{reach}

pub sum_cons : (c : ℕ) (cs : List ℕ) → sum (c ∷ cs) ≡ c + sum cs
sum_cons c cs = sum_by-cons (λ x. x) c cs

pub length-costs_of : (rs : List Undo) → length (costs_of rs) ≡ length rs
length-costs_of [] = refl
length-costs_of (r ∷ rs) = ap suc (length-costs_of rs)

pub costs_of-take : (n : ℕ) (rs : List Undo) → costs_of (take n rs) ≡ take n (costs_of rs)
costs_of-take zero rs = refl
costs_of-take (suc n) [] = refl
costs_of-take (suc n) (r ∷ rs) = ap (λ costs. cost_of r ∷ costs) (costs_of-take n rs)

pub length-costs_by : (rs : List Record) → length (costs_by rs) ≡ length rs
length-costs_by [] = refl
length-costs_by (r ∷ rs) = ap suc (length-costs_by rs)

pub costs_by-take : (n : ℕ) (rs : List Record) → costs_by (take n rs) ≡ take n (costs_by rs)
costs_by-take zero rs = refl
costs_by-take (suc n) [] = refl
costs_by-take (suc n) (r ∷ rs) = ap (λ costs. cost_by r ∷ costs) (costs_by-take n rs)

-- ---- what a budget holds

-- the first cost fits, or none does
abbrev ReachCases : ℕ → ℕ → List ℕ → Type 0
ReachCases b c cs = ((c ≤ b) × (reach b (c ∷ cs) ≡ suc (reach (b - c) cs))) ⊎ ((b < c) × (reach b (c ∷ cs) ≡ 0))

reach_cases : (b c : ℕ) (cs : List ℕ) → ReachCases b c cs
reach_cases b c cs = grind (arith, nat_tests)

pub reach_first : (b c : ℕ) (cs : List ℕ) → c ≤ b → reach b (c ∷ cs) ≡ suc (reach (b - c) cs)
reach_first b c cs fits = grind (arith, reach_cases b c cs)

pub reach_length : (b : ℕ) (cs : List ℕ) → reach b cs ≤ length cs
reach_length b [] = omega arith
reach_length b (c ∷ cs) = grind (arith, reach_cases b c cs, reach_length (b - c) cs)

reach_within_by : (b c : ℕ) (cs : List ℕ) → ReachCases b c cs
    → sum (take (reach (b - c) cs) cs) ≤ b - c → sum (take (reach b (c ∷ cs)) (c ∷ cs)) ≤ b
reach_within_by b c cs (inl h) rest = rw h.1 (omega (arith, h.0, rest, sum_cons c (take (reach (b - c) cs) cs)))
reach_within_by b c cs (inr h) rest = rw h.1 (omega arith)

pub reach_within : (b : ℕ) (cs : List ℕ) → sum (take (reach b cs) cs) ≤ b
reach_within b [] = omega arith
reach_within b (c ∷ cs) = reach_within_by b c cs (reach_cases b c cs) (reach_within (b - c) cs)

reach_most_by : (b c k : ℕ) (cs : List ℕ) → ReachCases b c cs
    → c + sum (take k cs) ≤ b → (sum (take k cs) ≤ b - c → k ≤ reach (b - c) cs) → suc k ≤ reach b (c ∷ cs)
reach_most_by b c k cs (inl h) held rest = omega (arith, h.1, rest (omega arith))
reach_most_by b c k cs (inr h) held rest = absurd (omega arith)

pub reach_most : (b k : ℕ) (cs : List ℕ) → k ≤ length cs → sum (take k cs) ≤ b → k ≤ reach b cs
reach_most b zero cs short h = omega arith
reach_most b (suc k) [] short h = absurd (omega arith)
reach_most b (suc k) (c ∷ cs) short h =
    reach_most_by b c k cs (reach_cases b c cs) (omega (arith, h, sum_cons c (take k cs)))
    (reach_most (b - c) k cs (omega arith))

-- ---- the sum of the records' costs

sum_without_last_at : (rs : List Record) (k : ℕ) (r : Record)
    → k + 1 ≡ length rs → slice_get rs k ≡ Some r → sum (costs_by (take k rs)) + cost_by r ≡ sum (costs_by rs)
sum_without_last_at [] k r len is = absurd (omega arith)
sum_without_last_at (q ∷ []) zero r len is =
    let e : q ≡ r = cc in
    let f : cost_by q ≡ cost_by r = ap (λ x. cost_by x) e in
    omega (arith, f, sum_cons (cost_by q) [])
sum_without_last_at (q ∷ (p ∷ rs)) zero r len is = absurd (omega arith)
sum_without_last_at (q ∷ rs) (suc k) r len is =
    let h = sum_without_last_at rs k r (omega arith) is in
    omega (arith, h, sum_cons (cost_by q) (costs_by rs), sum_cons (cost_by q) (costs_by (take k rs)))

pub sum_without_last : (rs : List Record) (r : Record)
    → 0 < length rs → last_item rs ≡ Some r → sum (costs_by (take (length rs - 1) rs)) + cost_by r ≡ sum (costs_by rs)
sum_without_last rs r some is = sum_without_last_at rs (length rs - 1) r (omega arith) is

-- no record costs less than the least
pub sum_least : (rs : List Record) → least_cost * length rs ≤ sum (costs_by rs)
sum_least [] = omega arith
sum_least (r ∷ rs) = omega (arith, cost_by_least r, sum_least rs, sum_cons (cost_by r) (costs_by rs))

pub sum_some : (rs : List Record) (n : ℕ) → n < sum (costs_by rs) → 0 < length rs
sum_some [] n h = absurd (omega arith)
sum_some (r ∷ rs) n h = omega arith

-- ---- records that are dropped from the end, ys being what is left of xs

less_or_same : {a b : ℕ} → a ≤ b → (a < b) ⊎ (a ≡ b)
less_or_same {a} {b} h = grind (arith, nat_tests)

pub left_after_drop : (xs ys : List Record) {zs : List Record}
    → ys ≡ take (length ys) xs → zs ≡ take (length ys - 1) ys → zs ≡ take (length zs) xs
left_after_drop xs ys {zs} are is =
    let n : length zs ≡ length ys - 1 = ap length is ∙ length-take-le (length ys - 1) ys (omega arith) in
    is ∙ ap (take (length ys - 1)) are ∙ take-take (length ys - 1) (length ys) xs (omega arith)
    ∙ ap (λ k. take k xs) (sym n)

left_cost : (xs ys : List Record) → ys ≡ take (length ys) xs → sum (costs_by ys) ≡ sum (take (length ys) (costs_by xs))
left_cost xs ys are = ap (λ rs. sum (costs_by rs)) are ∙ ap sum (costs_by-take (length ys) xs)

reach_less_by : (room r n : ℕ) (cs : List ℕ)
    → sum (take r cs) ≤ room → (r < n) ⊎ (r ≡ n) → room < sum (take n cs) → r < n
reach_less_by room r n cs h (inl less) over = less
reach_less_by room r n cs h (inr e) over = absurd (omega (arith, h, over, ap (λ k. sum (take k cs)) e))

-- while what is left costs more than the room, the reach lies below it
pub reach_less : (room : ℕ) (xs ys : List Record)
    → ys ≡ take (length ys) xs → reach room (costs_by xs) ≤ length ys → room < sum (costs_by ys)
    → reach room (costs_by xs) < length ys
reach_less room xs ys are l over =
    reach_less_by room (reach room (costs_by xs)) (length ys) (costs_by xs)
    (reach_within room (costs_by xs)) (less_or_same l) (omega (arith, over, left_cost xs ys are))

-- once it costs no more, it is the reach
pub left_is_reach : (room : ℕ) (xs ys : List Record)
    → ys ≡ take (length ys) xs → reach room (costs_by xs) ≤ length ys → length ys ≤ length xs
    → sum (costs_by ys) ≤ room → ys ≡ take (reach room (costs_by xs)) xs
left_is_reach room xs ys are l short within =
    let short_costs : length ys ≤ length (costs_by xs) = omega (arith, length-costs_by xs) in
    let most : length ys ≤ reach room (costs_by xs)
    = reach_most room (length ys) (costs_by xs) short_costs (omega (arith, within, left_cost xs ys are)) in
    let e : length ys ≡ reach room (costs_by xs) = omega arith in
    are ∙ ap (λ k. take k xs) e

-- ---- a record that comes first, once those have gone whose room it needs

pub has_place : {budget capacity cost : ℕ} (mid : List Record) → least_cost ≤ cost → cost ≤ budget
    → sum (costs_by mid) ≤ budget - cost → capacity ≡ budget / least_cost → length mid < capacity
has_place mid least l within places = omega (arith, sum_least mid)

pub newest_first : {budget cost : ℕ} (rs : List Record) {mid new : List Record} {r : Record}
    → cost ≡ cost_by r → cost ≤ budget → mid ≡ take (reach (budget - cost) (costs_by rs)) rs → new ≡ r ∷ mid
    → new ≡ take (reach budget (cost_by r ∷ costs_by rs)) (r ∷ rs)
newest_first {budget} {cost} rs {r = r} same l kept is =
    is ∙ ap (λ xs. r ∷ xs) kept ∙ ap (λ n. take n (r ∷ rs)) (sym (reach_first budget cost (costs_by rs) l))
    ∙ ap (λ n. take (reach budget (n ∷ costs_by rs)) (r ∷ rs)) same
