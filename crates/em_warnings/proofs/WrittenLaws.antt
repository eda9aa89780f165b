-- What a search for the newest change of a descriptor finds.
use Rattle.std.proofs.Common.{◌≡◌, ◌∙◌, ◌+◌, ◌<◌, ◌≤◌, ◌⊎◌, ℕ, zero, suc, Bool, true, false, Option, Some, None}
use Rattle.std.proofs.Common.{List, ap, arith, cond, inl, inr, length, not, refl, sym}
use Rattle.std.specs.Prelude.{◌≢◌, find, if◌then◌else◌, min, option_map, slice_get}
use Rattle.std.specs.List.{range_with_len}
use Rattle.std.proofs.lemmas.Bool.Decides.{nat_tests}
use Rattle.std.proofs.lemmas.List.{length-map}
use Rattle.std.proofs.lemmas.Option.{slice_get-map, slice_get_within}
use Rattle.std.proofs.lemmas.Slice.Eq.{bytes_eq-Decides}
use Rattle.em_mem.specs.Memory.{leaves}
use Rattle.em_journal.specs.View.{View, states}
use Rattle.em_step.specs.State.{State}
use Rattle.em_watch.specs.Change.{IsNextChange, StaysTo}
use Rattle.em_watch.specs.Watching.{sight, sights}
use Rattle.em_watch.specs.declared.change.Change.{Change}
use Rattle.em_watch.specs.declared.watch.Sight.{Sight}
use Rattle.em_watch.specs.declared.watch.Sight.TheVariants.{Nothing, Octets}
use Rattle.em_watch.specs.declared.watch.Watch.{Watch}
use Rattle.em_warnings.specs.Written.{Watches, changed_back, is_other, is_same, seen_at, seen_in}

-- ---- the first number of a range that passes

less_or_same : (i k : ℕ) → i ≤ k → (i < k) ⊎ (i ≡ k)
less_or_same i k l = grind (arith, nat_tests)

-- it is found where it passes and none before it does
find_is : (p : ℕ → Bool) (a n k : ℕ) → a ≤ k → k < a + n → p k ≡ true → ((i : ℕ) → a ≤ i → i < k → p i ≡ false)
    → find p (range_with_len a n) ≡ Some k
find_is p a zero k from below passes before = absurd (omega arith)
find_is p a (suc n) k from below passes before =
    let rest = find p (range_with_len (a + 1) n) in
    elim (less_or_same a k from) [
      | inl less ↦ ap (λ b. cond b (Some a) rest) (before a (omega arith) less)
          ∙ find_is p (a + 1) n k (omega arith) (omega arith) passes (λ i l m. before i (omega arith) m)
      | inr same ↦ ap (λ b. cond b (Some a) rest) (ap p same ∙ passes) ∙ ap Some same
    ]

-- none is found where none passes
find_none : (p : ℕ → Bool) (a n : ℕ) → ((i : ℕ) → a ≤ i → i < a + n → p i ≡ false)
    → find p (range_with_len a n) ≡ None
find_none p a zero none = refl
find_none p a (suc n) none =
    ap (λ b. cond b (Some a) (find p (range_with_len (a + 1) n))) (none a (omega arith) (omega arith))
    ∙ find_none p (a + 1) n (λ i l m. none i (omega arith) (omega arith))

-- ---- what is seen

of_state : (at : ℕ) (watch : Watch) (o : Option State) → Watches at watch
    → option_map (sight watch) o ≡ option_map (seen_in at) o
of_state at watch None is = refl
of_state at watch (Some s) is = ap Some (is s)

pub seen_is : (v : View) (at k : ℕ) (watch : Watch) → Watches at watch → slice_get (sights watch v) k ≡ seen_at v at k
seen_is v at k watch is = slice_get-map (sight watch) (states v) k ∙ of_state at watch (slice_get (states v) k) is

same_so : (outside : Bool) (xs : List ℕ)
    → is_same (Some (if outside then Nothing else Octets xs)) (Some (if outside then Nothing else Octets xs)) ≡ true
same_so true xs = refl
same_so false xs = (bytes_eq-Decides xs xs).1 refl

is_so : (a b : Bool) (xs ys : List ℕ)
    → is_same (Some (if a then Nothing else Octets xs)) (Some (if b then Nothing else Octets ys)) ≡ true
    → Some (if a then Nothing else Octets xs) ≡ Some (if b then Nothing else Octets ys)
is_so true true xs ys e = refl
is_so true false xs ys e = cc
is_so false true xs ys e = cc
is_so false false xs ys e = ap (λ (zs : List ℕ). Some (Octets zs)) ((bytes_eq-Decides xs ys).0 e)

-- the same is seen as now
same_now : (v : View) (at : ℕ) (seen : Option Sight) → seen ≡ seen_at v at 0 → not (is_same seen (seen_at v at 0)) ≡ false
same_now v at seen is = ap (λ o. not (is_same o (seen_at v at 0))) is ∙ ap not (same_so (leaves v.present.base v.present.memory at 16) _)

-- another is
other_by : (at : ℕ) (now s : State) (b : Bool) → is_same (Some (seen_in at s)) (Some (seen_in at now)) ≡ b
    → Some (seen_in at now) ≢ Some (seen_in at s) → not b ≡ true
other_by at now s true e other =
    absurd (other (sym (is_so (leaves s.base s.memory at 16) (leaves now.base now.memory at 16) _ _ e)))
other_by at now s false e other = refl

other_now : (at : ℕ) (now : State) (o : Option State) (seen : Sight) → option_map (seen_in at) o ≡ Some seen
    → Some (seen_in at now) ≢ Some seen → not (is_same (option_map (seen_in at) o) (Some (seen_in at now))) ≡ true
other_now at now None seen is other = cc
other_now at now (Some s) seen is other = other_by at now s _ refl (λ e. other (e ∙ is))

-- ---- the newest change

pub newest_is : (v : View) (at : ℕ) (watch : Watch) (change : Change) → Watches at watch → IsNextChange watch v 0 change
    → change.back ≤ 64 → changed_back v at ≡ Some change.back
newest_is v at watch change is next near =
    let k = change.back in
    let there = slice_get_within (sights watch v) k change.before next.before in
    let all = length-map (states v) (sight watch) in
    find_is (is_other v at) 1 (min 64 (length v.past)) k next.older (omega (arith, there, all, near))
    (other_now at v.present (slice_get (states v) k) change.before (sym (seen_is v at k watch is) ∙ next.before)
    (λ e. next.another (seen_is v at 0 watch is ∙ e)))
    (λ i l m. same_now v at (seen_at v at i)
    (sym (seen_is v at i watch is) ∙ next.since i (omega arith) m ∙ seen_is v at 0 watch is))

pub none_is : (v : View) (at : ℕ) (watch : Watch) → Watches at watch → StaysTo watch v 0 (min 64 (length v.past))
    → changed_back v at ≡ None
none_is v at watch is stays =
    find_none (is_other v at) 1 (min 64 (length v.past))
    (λ i l m. same_now v at (seen_at v at i)
    (sym (seen_is v at i watch is) ∙ stays i (omega arith) (omega arith) ∙ seen_is v at 0 watch is))
