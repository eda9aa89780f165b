-- Octets of memory just before an event and just after it.
use Rattle.std.proofs.Common.{◌≡◌, ℕ, ◌+◌, ◌-◌, ◌<◌, ◌≤◌, inl, inr, Bool, true, false, cond, List, ◌++◌, length}
use Rattle.std.proofs.Common.{drop, get_or, Some, None, refl, sym, ap, ◌∙◌, subst, arith}
use Rattle.std.specs.Prelude.{◌≢◌, Option, if◌then◌else◌, nat_lt, slice_get, replicate, IfSome, IfNone}
use Rattle.std.proofs.lemmas.Bool.{cases_lt, false≢true}
use Rattle.std.proofs.lemmas.Bool.Decides.{nat_tests}
use Rattle.std.proofs.lemmas.List.{get_or_append_left, get_or-take, get_or-drop}
use Rattle.std.proofs.lemmas.Option.{slice_get-get_or, slice_get_cases, slice_get_past}
use Rattle.em_mem.specs.Memory.{LiesIn, leaves, part}
use Rattle.em_mem.proofs.NeedsLaws.{stays_in}
use Rattle.em_mem.proofs.PutLaws.{length-part}
use Rattle.em_step.specs.Before.{LeavesUpTo}
use Rattle.em_step.specs.Cells.{shows}
use Rattle.em_step.specs.State.{State}
use Rattle.em_step.specs.Undo.{Undo, undo}
use Rattle.em_step.proofs.SizeLaws.{memory_base}
use Rattle.em_journal.specs.Record.{IsRecordAt}
use Rattle.em_journal.specs.View.{HaveMemoryOf, View, states}
use Rattle.em_watch.specs.MemoryChange.{ChangesOctet, HasRange, IsMemoryChange, LeavesOctet, LeavesOctets, LeavesRest}
use Rattle.em_watch.specs.MemoryChange.{ShowsOctets, octet_back, octet_in}
use Rattle.em_watch.specs.Traced.{IsOctets, IsTraced, octets_of, shown, traced, traced_octets}
use Rattle.em_watch.specs.declared.range.TheConstants.{MOST_WATCHED}
use Rattle.em_watch.specs.declared.range.MemoryRange.{MemoryRange}
use Rattle.em_watch.specs.declared.watch.Watch.TheVariants.{Octets}
use Rattle.em_watch.specs.declared.watch.Sight.TheVariants as sight
use Rattle.em_watch.specs.declared.traced.Traced.{Traced}
use Rattle.em_watch.specs.declared.traced.Traced.TheVariants as traced
use Rattle.em_watch.proofs.TracedLaws.{from_map, mapped, next_item, seen_there}

-- ---- what is traced of a range that memory has
-- zeros stand behind the octets
abbrev padded : MemoryRange → List ℕ → List ℕ
padded range memory = part memory range.addr range.len ++ replicate (MOST_WATCHED - range.len) 0

octets_if : (range : MemoryRange) (memory : List ℕ) (b : Bool) → b ≡ false
    → cond b traced.Nothing (traced.Octets range (padded range memory)) ≡ traced.Octets range (padded range memory)
octets_if range memory true there = absurd (false≢true (sym there))
octets_if range memory false there = refl

traced_is : (range : MemoryRange) (base : ℕ) (memory : List ℕ) → LiesIn base memory range.addr range.len
    → traced_octets base memory range ≡ traced.Octets range (padded range memory)
traced_is range base memory held =
    octets_if range memory (leaves base memory range.addr range.len)
    (stays_in base memory range.addr range.len held)

pub is_octets : (v : View) (k : ℕ) (range : MemoryRange) (t : Traced) → HasRange v range
    → IsTraced (Octets range) v k t → IsOctets t
is_octets v k range t held is =
    let here = from_map (traced (Octets range)) (states v) k t is in
    subst IsOctets (sym (traced_is range here.0.base here.0.memory (held k here.0 here.1)) ∙ here.2) tt

cond_false : {A : Type 0} (b : Bool) (x y : A) → b ≡ false → (if b then x else y) ≡ y
cond_false b x y is = ap (λ c. if c then x else y) is

-- an address in memory
in_memory : (s : State) (a : ℕ) → s.base ≤ a → octet_in s a ≡ slice_get s.memory a
in_memory s a from = cond_false (nat_lt a s.base) None (slice_get s.memory a) (grind (arith, nat_tests))

octet_of : (range : MemoryRange) (s : State) (i : ℕ) → LiesIn s.base s.memory range.addr range.len → i < range.len
    → octet_in s (range.addr + i) ≡ Some (get_or (padded range s.memory) i 0)
octet_of range s i held l =
    let memory : List ℕ = s.memory in
    let size = length-part memory range.addr range.len held.to in
    in_memory s (range.addr + i) (omega (arith, held.from))
    ∙ slice_get-get_or memory (range.addr + i) 0 (omega (arith, held.to, l))
    ∙ ap Some (
    sym (get_or-drop range.addr memory i 0)
    ∙ sym (get_or-take range.len (drop range.addr memory) i 0 l)
    ∙ sym (get_or_append_left (part memory range.addr range.len) (replicate (MOST_WATCHED - range.len) 0) 0 i
    (omega (arith, size, l)))
    )

pub shows_octets : (v : View) (k : ℕ) (range : MemoryRange) (t : Traced) (octets : List ℕ) → HasRange v range
    → IsTraced (Octets range) v k t → octets ≡ octets_of t → ShowsOctets v k range octets
shows_octets v k range t octets held is octets_is =
    let here = from_map (traced (Octets range)) (states v) k t is in
    let memory : List ℕ = here.0.memory in
    let all : t ≡ traced.Octets range (padded range memory)
    = sym here.2 ∙ traced_is range here.0.base memory (held k here.0 here.1) in
    let same : padded range memory ≡ octets = ap octets_of (sym all) ∙ sym octets_is in
    record {
      seen = seen_there (Octets range) v k t is ∙ ap Some (ap shown all ∙ ap sight.Octets same);
      each = λ i l. mapped (λ (s : State). octet_in s (range.addr + i)) (states v) k here.0 here.1
          ∙ ap Some (octet_of range here.0 i (held k here.0 here.1) l ∙ ap (λ x. Some (get_or x i 0)) same);
    }

-- ---- from a record on
-- an octet before the event of a record and after it
octets_at_record : (v : View) (back : ℕ) (r : Undo) (a : ℕ) → 0 < back → (at : IsRecordAt v (back - 1) r)
    → slice_get (shows at.0).memory a ≡ slice_get (shows (undo at.0 r)).memory a → LeavesOctet v back a
octets_at_record v back r a some at same =
    let octet : State → Option ℕ = λ s. octet_in s a in
    let begins = memory_base at.0 r in
    let kept : octet (shows at.0) ≡ octet (shows (undo at.0 r))
    = λ i. if nat_lt a (sym begins i) then None else same i in
    let there : back - 1 + 1 ≡ back = omega (arith, some) in
    let before : slice_get (states v) back ≡ Some (shows (undo at.0 r))
    = ap (slice_get (states v)) (sym there) ∙ next_item v.present v.past (back - 1) ∙ at.3 in
    mapped octet (states v) back (shows (undo at.0 r)) before ∙ ap Some (sym kept)
    ∙ sym (mapped octet (states v) (back - 1) (shows at.0) at.2)

pub place_from : (v : View) (back from : ℕ) (r : Undo) (next : Option ℕ) → IsRecordAt v (back - 1) r
    → LeavesUpTo r from next → IfSome next (λ k. from ≤ k)
place_from v back from r next at leaves = (leaves at.0 at.1).octets.from

place_left : (v : View) (back from : ℕ) (r : Undo) (next : Option ℕ) → 0 < back → IsRecordAt v (back - 1) r
    → LeavesUpTo r from next → (a : ℕ) → from ≤ a → IfSome next (λ k. a < k) → LeavesOctet v back a
place_left v back from r next some at leaves a l below =
    octets_at_record v back r a some at ((leaves at.0 at.1).octets.same a l below)

pub left_to : (v : View) (back from : ℕ) (r : Undo) (next : Option ℕ) → 0 < back → IsRecordAt v (back - 1) r
    → LeavesUpTo r from next → IfSome next (LeavesOctets v back from)
left_to v back from r None some at leaves = tt
left_to v back from r (Some k) some at leaves = λ a l m. place_left v back from r (Some k) some at leaves a l m

pub left_to_end : (v : View) (back from : ℕ) (r : Undo) (next : Option ℕ) → 0 < back → IsRecordAt v (back - 1) r
    → LeavesUpTo r from next → IfNone next (LeavesRest v back from)
left_to_end v back from r None some at leaves = λ a l. place_left v back from r None some at leaves a l tt
left_to_end v back from r (Some k) some at leaves = tt

pub place_inside : (v : View) (back from : ℕ) (r : Undo) (next : Option ℕ) (end : ℕ) → HaveMemoryOf v.present.base end v
    → IsRecordAt v (back - 1) r → LeavesUpTo r from next → IfSome next (λ k. v.present.base ≤ k)
place_inside v back from r next end has at leaves =
    subst (λ b. IfSome next (λ k. b ≤ k)) (has (back - 1) (shows at.0) at.2).begins (leaves at.0 at.1).inside

-- past the end of memory no state has an octet
none_past : (s : State) (a : ℕ) (b : Bool) → length s.memory ≤ a → (if b then None else slice_get s.memory a) ≡ None
none_past s a true past = refl
none_past s a false past = slice_get_past s.memory a past

past_in : (v : View) (k base end a : ℕ) → HaveMemoryOf base end v → end ≤ a → k ≤ length v.past
    → octet_back v k a ≡ Some None
past_in v k base end a has past there = elim (slice_get_cases (states v) k).1 [
  | inl here ↦ mapped (λ (s : State). octet_in s a) (states v) k here.0 here.2
      ∙ ap Some (none_past here.0 a (nat_lt a here.0.base) (omega (arith, (has k here.0 here.2).ends, past)))
  | inr none ↦ absurd (omega (arith, none.0, there))
]

pub past_the_end : (v : View) (back base end a : ℕ) → HaveMemoryOf base end v → end ≤ a → back ≤ length v.past
    → LeavesOctet v back a
past_the_end v back base end a has past there =
    past_in v back base end a has past there ∙ sym (past_in v (back - 1) base end a has past (omega (arith, there)))

-- ---- an octet of a range
module _ (v : View) (back : ℕ) (range : MemoryRange) (before after : List ℕ) (was : ShowsOctets v back range before)
    (is : ShowsOctets v (back - 1) range after) where
  pub left_there : (i : ℕ) → i < range.len → get_or before i 0 ≡ get_or after i 0 → LeavesOctet v back (range.addr + i)
  left_there i l same = was.each i l ∙ ap (λ x. Some (Some x)) same ∙ sym (is.each i l)

  pub changed_there : (i : ℕ) → i < range.len → get_or before i 0 ≢ get_or after i 0
      → ChangesOctet v back (range.addr + i)
  changed_there i l other same = other (let e = sym (was.each i l) ∙ same ∙ is.each i l in cc)

  -- the octets at the front of the range were left
  pub front_left : (n : ℕ) → n ≤ range.len → ((j : ℕ) → j < n → get_or before j 0 ≡ get_or after j 0)
      → LeavesOctets v back range.addr (range.addr + n)
  front_left n held same a from below =
      let place : range.addr + (a - range.addr) ≡ a = omega (arith, from) in
      subst (LeavesOctet v back) place
      (left_there (a - range.addr) (omega (arith, held, below)) (same (a - range.addr) (omega (arith, below, from))))

  -- so were those at its end
  pub back_left : (n : ℕ) → ((j : ℕ) → n ≤ j → j < range.len → get_or before j 0 ≡ get_or after j 0)
      → LeavesOctets v back (range.addr + n) (range.addr + range.len)
  back_left n same a from below =
      let place : range.addr + (a - range.addr) ≡ a = omega (arith, from) in
      subst (LeavesOctet v back) place
      (left_there (a - range.addr) (omega (arith, below, from))
      (same (a - range.addr) (omega (arith, from)) (omega (arith, below, from))))

  -- where the first octet and the last one were changed, so were the octets
  pub is_change : 0 < range.len → ChangesOctet v back range.addr
      → ChangesOctet v back (range.addr + range.len - 1)
      → IsMemoryChange v back (record { range = range; before = before; after = after })
  is_change some first last = record {
    octets = record {
      before = was.seen;
      after = is.seen;
      differ = λ e.
          let octets : before ≡ after = cc in
          let here : range.addr + 0 ≡ range.addr = omega arith in
          first (subst (LeavesOctet v back) here (left_there 0 some (ap (λ x. get_or x 0 0) octets)));
    };
    first = first;
    last = last;
  }

-- ---- one range after another
pub leaves_both : (v : View) (back from mid below : ℕ) → LeavesOctets v back from mid → LeavesOctets v back mid below
    → LeavesOctets v back from below
leaves_both v back from mid below one other a l m =
    elim (cases_lt a mid) [ inl lt ↦ one a l lt | inr ge ↦ other a ge m ]

pub leaves_rest : (v : View) (back from mid : ℕ) → LeavesOctets v back from mid → LeavesRest v back mid
    → LeavesRest v back from
leaves_rest v back from mid one other a l =
    elim (cases_lt a mid) [ inl lt ↦ one a l lt | inr ge ↦ other a ge ]
