-- Each arrival has one fate.
use Rattle.std.proofs.Common.{◌≡◌, ℕ, ◌+◌, ◌≤◌, ◌<◌, Bool, true, false, List, length, refl, inl, inr, arith}
use Rattle.std.specs.Prelude.{if◌then◌else◌, nat_lt, not}
use Rattle.std.proofs.lemmas.Bool.{ltb-false, le-ltb}
use Rattle.std.proofs.lemmas.Bool.Decides.{nat_tests}
use Rattle.em_address.specs.declared.kind.Kind.{Kind}
use Rattle.em_filter.specs.declared.outcome.Verdict.TheVariants.{Reject, Accept}
use Rattle.em_filter.specs.declared.outcome.Verdict.TheVariants.{Undersize as TooShort, Oversize as TooLong}
use Rattle.em_filter.specs.Bits.{takes_long}
use Rattle.em_filter.specs.Filters.{longest, passes_address, passes_others, verdict}
use Rattle.em_address.specs.Kind.{destination, kind_of}
use Rattle.em_step.specs.Arrival.{is_enabled, lacks_room, judgement, after_arrived, after_miss, after_accept, arrival}
use Rattle.em_step_laws.specs.Fate.{IsFate, IsTaken}
use Rattle.em_step.specs.State.{State}
use Rattle.em_step.specs.declared.event.Answer.{Answer}
use Rattle.em_step.specs.declared.event.Answer.TheVariants.{Done, Value, Stored, Dropped, Idle, Wrote, Fetched, Sent}
use Rattle.em_step.specs.declared.event.Reason.TheVariants.{Down, Disabled, Rejected, Undersize, Oversize, Missed}

-- what is too long is not too short
long_least : (lpe : Bool) (n : ℕ) → (if lpe then 16384 else 1522) < n → 64 ≤ n
long_least true n h = omega arith
long_least false n h = omega arith

longest_least : (s : State) (f : List ℕ) → longest s.profile s.registers < length f + 4 → 64 ≤ length f + 4
longest_least s f h = long_least (takes_long s.profile s.registers) (length f + 4) h

abbrev answer : Answer × State → Answer
answer r = r.0

module _ (s : State) (f : List ℕ) where
  -- an accepted frame is stored or missed
  by_room : (kind : Kind) (lacks : Bool) → lacks_room s f ≡ lacks → IsTaken s f →
      IsFate s f (answer (if lacks then (Dropped Missed, after_miss (after_arrived s f))
      else (Stored, after_accept (after_arrived s f) f kind)))
  by_room kind true room taken = (taken, grind (arith, nat_tests))
  by_room kind false room taken = (taken, grind (arith, nat_tests))

  -- the tests one after the other
  by_tests :
      (up en acc short long vlan : Bool) → s.link ≡ up → is_enabled s ≡ en → passes_address s.profile s.registers f ≡ acc →
      nat_lt (length f + 4) 64 ≡ short → nat_lt (longest s.profile s.registers) (length f + 4) ≡ long →
      passes_others s.profile s.registers f ≡ vlan →
      IsFate s f (answer (
      if not up then (Dropped Down, s)
      else if not en then (Dropped Disabled, s)
      else judgement (after_arrived s f) f (
      if not acc then Reject
      else if short then TooShort
      else if long then TooLong
      else if not vlan then Reject
      else Accept (kind_of (destination f)))))
  by_tests false en acc short long vlan link enabled accepted few many passes = link
  by_tests true false acc short long vlan link enabled accepted few many passes = (link, enabled)
  by_tests true true false short long vlan link enabled accepted few many passes = ((link, enabled), inl accepted)
  by_tests true true true true long vlan link enabled accepted few many passes =
      ((link, enabled), accepted, grind (arith, nat_tests))
  by_tests true true true false true vlan link enabled accepted few many passes =
      ((link, enabled), accepted, grind (arith, nat_tests))
  by_tests true true true false false false link enabled accepted few many passes =
      ((link, enabled), inr (accepted, (ltb-false _ _ few, ltb-false _ _ many), passes))
  by_tests true true true false false true link enabled accepted few many passes =
      by_room (kind_of (destination f)) (lacks_room s f) refl
      ((link, enabled), accepted, (ltb-false _ _ few, ltb-false _ _ many), passes)

  pub one_fate : IsFate s f (arrival s f).0
  unfolding verdict
  one_fate = by_tests s.link (is_enabled s) _ _ _ _ refl refl refl refl refl refl

  -- ---- no other
  pub no_other : (a : Answer) → IsFate s f a → (arrival s f).0 ≡ a
  unfolding verdict
  no_other (Dropped Down) link = simp link refl
  no_other (Dropped Disabled) (link, enabled) = simp (link, enabled) refl
  no_other (Dropped Rejected) ((link, enabled), inl accepted) = simp (link, enabled, accepted) refl
  no_other (Dropped Rejected) ((link, enabled), inr (accepted, (least, most), passes)) =
      let few : nat_lt (length f + 4) 64 ≡ false = le-ltb _ _ least in
      let many : nat_lt (longest s.profile s.registers) (length f + 4) ≡ false = le-ltb _ _ most in
      simp (link, enabled, accepted, few, many, passes) refl
  no_other (Dropped Undersize) ((link, enabled), accepted, short) =
      let few : nat_lt (length f + 4) 64 ≡ true = grind (arith, nat_tests) in
      simp (link, enabled, accepted, few) refl
  no_other (Dropped Oversize) ((link, enabled), accepted, long) =
      let few : nat_lt (length f + 4) 64 ≡ false = le-ltb _ _ (longest_least s f long) in
      let many : nat_lt (longest s.profile s.registers) (length f + 4) ≡ true = grind (arith, nat_tests) in
      simp (link, enabled, accepted, few, many) refl
  no_other (Dropped Missed) (((link, enabled), accepted, (least, most), passes), full) =
      let few : nat_lt (length f + 4) 64 ≡ false = le-ltb _ _ least in
      let many : nat_lt (longest s.profile s.registers) (length f + 4) ≡ false = le-ltb _ _ most in
      let room : lacks_room s f ≡ true = grind (arith, nat_tests) in
      simp (link, enabled, accepted, few, many, passes, room) refl
  no_other Stored (((link, enabled), accepted, (least, most), passes), fits) =
      let few : nat_lt (length f + 4) 64 ≡ false = le-ltb _ _ least in
      let many : nat_lt (longest s.profile s.registers) (length f + 4) ≡ false = le-ltb _ _ most in
      let room : lacks_room s f ≡ false = le-ltb _ _ fits in
      simp (link, enabled, accepted, few, many, passes, room) refl
  no_other Done is = absurd is
  no_other (Value v) is = absurd is
  no_other Idle is = absurd is
  no_other (Wrote index) is = absurd is
  no_other (Fetched index) is = absurd is
  no_other (Sent index octets) is = absurd is
