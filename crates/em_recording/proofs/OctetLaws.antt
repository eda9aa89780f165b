-- The steps of octets, by address.
use Rattle.std.proofs.Common.{◌≡◌, ◌∙◌, ℕ, ◌+◌, ◌-◌, ◌<◌, ◌≤◌, inl, inr, Bool, true, false, cond, List, [], ◌∷◌, ◌++◌}
use Rattle.std.proofs.Common.{Option, Some, None, refl, sym, ap, subst, arith, drop, get_or}
use Rattle.std.specs.Prelude.{if◌then◌else◌, nat_lt, slice_get, slice_index, replicate}
use Rattle.std.specs.Iterator.{Yields}
use Rattle.std.proofs.lemmas.Bool.{cases_lt, le-ltb}
use Rattle.std.proofs.lemmas.Bool.Decides.{nat_tests}
use Rattle.std.proofs.lemmas.List.{get_or_append_left, get_or-take, get_or-drop}
use Rattle.std.proofs.lemmas.Option.{slice_get-get_or}
use Rattle.em_mem.specs.Memory.{leaves, part}
use Rattle.em_mem.proofs.NeedsLaws.{lies_by_test}
use Rattle.em_mem.proofs.PutLaws.{length-part}
use Rattle.em_step.specs.State.{State}
use Rattle.em_journal.specs.View.{View, states}
use Rattle.em_watch.specs.MemoryChange.{IsMemoryChange, LeavesOctet, octet_in}
use Rattle.em_watch.specs.MemorySearch.{GivesOctets, MemorySearch}
use Rattle.em_watch.specs.Watching.{sight}
use Rattle.em_watch.specs.declared.octets.MemoryChange.{MemoryChange}
use Rattle.em_watch.specs.declared.range.MemoryRange.{MemoryRange}
use Rattle.em_watch.specs.declared.range.TheConstants.{MOST_WATCHED}
use Rattle.em_watch.specs.declared.watch.Watch.TheVariants.{Octets}
use Rattle.em_watch.specs.declared.watch.Sight.TheVariants as sight
use Rattle.em_watch.proofs.TracedLaws.{mapped}
use Rattle.em_recording.specs.Effects.{AreOctetSteps}
use Rattle.em_recording.specs.Steps.{has_address, octet_at}
use Rattle.em_recording.proofs.ThingLaws.{seen_is}

-- ---- what is seen of a range
-- zeros stand behind its octets
abbrev padded : List ℕ → ℕ → ℕ → List ℕ
padded memory a n = part memory a n ++ replicate (MOST_WATCHED - n) 0

octet_if : (base : ℕ) (memory octets : List ℕ) (a n i : ℕ) (b : Bool) → leaves base memory a n ≡ b → i < n
    → sight.Octets octets ≡ cond b sight.Nothing (sight.Octets (padded memory a n))
    → (if nat_lt (a + i) base then None else slice_get memory (a + i)) ≡ Some (slice_index octets i)
octet_if base memory octets a n i true past l e = absurd (cc)
octet_if base memory octets a n i false past l e =
    let lies = lies_by_test base memory a n past in
    let held = lies.to in
    let size = length-part memory a n held in
    let same : octets ≡ padded memory a n = cc in
    ap (λ b. cond b None (slice_get memory (a + i))) (le-ltb (a + i) base (omega (arith, lies.from)))
    ∙ slice_get-get_or memory (a + i) 0 (omega (arith, held, l))
    ∙ ap Some (
    sym (get_or-drop a memory i 0)
    ∙ sym (get_or-take n (drop a memory) i 0 l)
    ∙ sym (get_or_append_left (part memory a n) (replicate (MOST_WATCHED - n) 0) 0 i (omega (arith, size, l)))
    ∙ sym (ap (λ x. get_or x i 0) same)
    )

pub octet_seen : (s : State) (range : MemoryRange) (octets : List ℕ) (i : ℕ) → i < range.len
    → sight.Octets octets ≡ sight (Octets range) s
    → octet_in s (range.addr + i) ≡ Some (slice_index octets i)
octet_seen s range octets i l e =
    octet_if s.base s.memory octets range.addr range.len i (leaves s.base s.memory range.addr range.len) refl l e

-- ---- a test of a step's range
at_if : (read : MemoryChange → List ℕ) (step : MemoryChange) (steps : List MemoryChange) (a : ℕ) (other : Option ℕ)
    → (b : Bool) → has_address step.range a ≡ b
    → octet_at read (step ∷ steps) a other
    ≡ cond b (Some (slice_index (read step) (a - step.range.addr))) (octet_at read steps a other)
at_if read step steps a other b is =
    ap (λ x. cond x (Some (slice_index (read step) (a - step.range.addr))) (octet_at read steps a other)) is

lies_before : (range : MemoryRange) (a : ℕ) → a < range.addr → has_address range a ≡ false
lies_before range a l = grind (arith, nat_tests)

lies_behind : (range : MemoryRange) (a : ℕ) → range.addr + range.len ≤ a → has_address range a ≡ false
lies_behind range a l = grind (arith, nat_tests)

lies_in : (range : MemoryRange) (a : ℕ) → range.addr ≤ a → a < range.addr + range.len → has_address range a ≡ true
lies_in range a l m = grind (arith, nat_tests)

module _ (v : View) (back : ℕ) (from to : State) (read : MemoryChange → List ℕ)
    (told : (change : MemoryChange) → IsMemoryChange v back change → (i : ℕ) → i < change.range.len
    → octet_in to (change.range.addr + i) ≡ Some (slice_index (read change) i))
    (left : (a : ℕ) → LeavesOctet v back a → octet_in from a ≡ octet_in to a) where
  -- no step lies before where the search began
  missed : (changes : List MemoryChange) (p a : ℕ) (t : MemorySearch) (other : Option ℕ)
      → Yields GivesOctets (record { view = v; back = back; addr = p }) changes t → a < p
      → octet_at read changes a other ≡ other
  missed [] p a t other yields below = refl
  missed (change ∷ changes) p a t other yields below =
      let next = yields.1 in
      let at : p ≤ change.range.addr = next.0.from in
      let rest = subst (λ (j : MemorySearch). Yields GivesOctets j changes t) next.1 yields.2 in
      at_if read change changes a other false (lies_before change.range a (omega (arith, at, below)))
      ∙ missed changes (change.range.addr + change.range.len) a t other rest (omega (arith, at, below))

  told_there : (a : ℕ) (change : MemoryChange) → IsMemoryChange v back change → change.range.addr ≤ a
      → a < change.range.addr + change.range.len
      → Some (slice_index (read change) (a - change.range.addr)) ≡ octet_in to a
  told_there a change changed l m =
      let place : change.range.addr + (a - change.range.addr) ≡ a = omega (arith, l) in
      sym (told change changed (a - change.range.addr) (omega (arith, l, m))) ∙ ap (octet_in to) place

  -- the octet at an address from where the search began
  found_from : (changes : List MemoryChange) (p a : ℕ) (t u : MemorySearch)
      → Yields GivesOctets (record { view = v; back = back; addr = p }) changes t → GivesOctets t None u → p ≤ a
      → octet_at read changes a (octet_in from a) ≡ octet_in to a
  found_from [] p a t u yields last here =
      let ended = subst (λ (j : MemorySearch). GivesOctets j None u) (sym yields) last in
      left a (ended.0 a here)
  found_from (change ∷ changes) p a t u yields last here =
      let next = yields.1 in
      let range : MemoryRange = change.range in
      let end : ℕ = range.addr + range.len in
      let rest = subst (λ (j : MemorySearch). Yields GivesOctets j changes t) next.1 yields.2 in
      let other : Option ℕ = octet_in from a in
      elim (cases_lt a range.addr) [
        | inl before ↦ at_if read change changes a other false (lies_before range a before)
            ∙ missed changes end a t other rest (omega (arith, before)) ∙ left a (next.0.first a here before)
        | inr behind ↦ elim (cases_lt a end) [
          | inl within ↦ at_if read change changes a other true (lies_in range a behind within)
              ∙ told_there a change next.0.changed behind within
          | inr past ↦ at_if read change changes a other false (lies_behind range a past)
              ∙ found_from changes end a t u rest last past
        ]
      ]

  pub octet_is : (steps : List MemoryChange) (a : ℕ) → AreOctetSteps v back steps
      → octet_at read steps a (octet_in from a) ≡ octet_in to a
  octet_is steps a are = found_from steps 0 a are.1.0 are.0 are.1.1 are.1.2 (omega arith)

module _ (v : View) (back : ℕ) (before after : State) (was : slice_get (states v) back ≡ Some before)
    (is : slice_get (states v) (back - 1) ≡ Some after) where
  was_octets : (change : MemoryChange) → IsMemoryChange v back change → (i : ℕ) → i < change.range.len
      → octet_in before (change.range.addr + i) ≡ Some (slice_index change.before i)
  was_octets change changed i l =
      octet_seen before change.range change.before i l
      (seen_is (Octets change.range) v back before (sight.Octets change.before) was changed.octets.before)

  is_octets : (change : MemoryChange) → IsMemoryChange v back change → (i : ℕ) → i < change.range.len
      → octet_in after (change.range.addr + i) ≡ Some (slice_index change.after i)
  is_octets change changed i l =
      octet_seen after change.range change.after i l
      (seen_is (Octets change.range) v (back - 1) after (sight.Octets change.after) is changed.octets.after)

  stays : (a : ℕ) → LeavesOctet v back a → octet_in before a ≡ octet_in after a
  stays a leaves =
      let octet : State → Option ℕ = λ s. octet_in s a in
      let both : Some (octet before) ≡ Some (octet after)
      = sym (mapped octet (states v) back before was) ∙ leaves ∙ mapped octet (states v) (back - 1) after is in
      cc

  pub octets_after : (steps : List MemoryChange) (a : ℕ) → AreOctetSteps v back steps
      → octet_at (λ step. step.after) steps a (octet_in before a) ≡ octet_in after a
  octets_after = octet_is v back before after (λ step. step.after) is_octets stays

  pub octets_before : (steps : List MemoryChange) (a : ℕ) → AreOctetSteps v back steps
      → octet_at (λ step. step.before) steps a (octet_in after a) ≡ octet_in before a
  octets_before =
      octet_is v back after before (λ step. step.before) was_octets (λ a leaves. sym (stays a leaves))
