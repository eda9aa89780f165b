-- The table of drops beside the arrival of a frame.
use Rattle.std.proofs.Common.{◌≡◌, ℕ, Bool, true, false, List, length, Option, Some, None, refl, sym, ap}
use Rattle.std.proofs.Common.{◌∙◌, arith}
use Rattle.std.specs.Prelude.{[], ◌∷◌, ◌+◌, ◌==◌, ◌&&◌, ◌≤◌, ◌↔◌, nat_le, nat_lt, not}
use Rattle.std.specs.Prelude.{option_map, if◌then◌else◌}
use Rattle.std.proofs.lemmas.Bool.Decides.{nat_tests}
use Rattle.em_address.specs.declared.kind.Kind.{Kind}
use Rattle.em_address.specs.declared.kind.Kind.TheVariants as kind
use Rattle.em_address.specs.Kind.{destination, kind_of, source}
use Rattle.em_filter.specs.declared.outcome.Verdict.{Verdict}
use Rattle.em_filter.specs.declared.outcome.Verdict.TheVariants.{Reject, Accept}
use Rattle.em_filter.specs.declared.outcome.Verdict.TheVariants.{Undersize as TooShort, Oversize as TooLong}
use Rattle.em_filter.specs.Filters.{longest, passes_address, verdict}
use Rattle.em_filter.specs.Bits.{is_second, vet, vme}
use Rattle.em_filter.specs.Control.{is_other_control, passes_dpf}
use Rattle.em_filter.specs.Vlan.{cfi_of, passes_cfi, passes_vlan, tagged, type_of}
use Rattle.em_regs.specs.Storage.{Registers}
use Rattle.em_rx.specs.Frame.{len_of}
use Rattle.em_step.specs.Arrival.{after_accept, after_arrived, after_miss, arrival, is_enabled, judgement, kept_frame}
use Rattle.em_step.specs.Arrival.{lacks_room}
use Rattle.em_regs.specs.declared.profile.Profile.{Profile}
use Rattle.em_regs.specs.declared.profile.Profile.TheVariants.{Table, Adapter}
use Rattle.em_step.specs.State.{State}
use Rattle.em_step.specs.declared.event.Answer.{Answer}
use Rattle.em_step.specs.declared.event.Answer.TheVariants.{Stored, Dropped as Drops, Done, Value, Idle}
use Rattle.em_step.specs.declared.event.Answer.TheVariants.{Wrote, Fetched, Sent}
use Rattle.em_step.specs.declared.event.Reason.{Reason}
use Rattle.em_step.specs.declared.event.Reason.TheVariants as reason
use Rattle.em_reasons.specs.Table.{first_of}
use Rattle.em_reasons.specs.declared.dropped.Dropped.{Dropped}
use Rattle.em_reasons.specs.declared.dropped.Dropped.TheVariants.{Down, Disabled, Undersize, Cfi, Pause, Missed}
use Rattle.em_reasons.specs.Dropped.{IsDropped, from_of, reason_of, rejected, to_of, unfiltered, unfiltered_by, unfiltered_so}
use Rattle.em_reasons.specs.Dropped.{too_long, too_long_by, unlisted, why}

-- the answer by the tests, one after another
abbrev answer_by : Bool → Bool → Bool → Bool → Bool → Bool → Bool → Bool → Bool → Answer
answer_by up on known short long passes cfi unpaused full =
    if not up then Drops reason.Down
    else if not on then Drops reason.Disabled
    else if not known then Drops reason.Rejected
    else if short then Drops reason.Undersize
    else if long then Drops reason.Oversize
    else if not passes then Drops reason.Rejected
    else if not cfi then Drops reason.Rejected
    else if not unpaused then Drops reason.Rejected
    else if full then Drops reason.Missed
    else Stored

abbrev answer_in : Answer × State → Answer
answer_in r = r.0

by_room : (s : State) (f : List ℕ) (kind : Kind) (full : Bool) (x y : State)
    → answer_in (if full then (Drops reason.Missed, x) else (Stored, y))
    ≡ (if full then Drops reason.Missed else Stored)
by_room s f kind true x y = refl
by_room s f kind false x y = refl

by_verdict : (s : State) (f : List ℕ) (known short long passes cfi unpaused : Bool) (kind : Kind)
    → answer_in (judgement s f (if not known then Reject
    else if short then TooShort
    else if long then TooLong
    else if not (passes && (cfi && unpaused)) then Reject
    else Accept kind))
    ≡ (if not known then Drops reason.Rejected
    else if short then Drops reason.Undersize
    else if long then Drops reason.Oversize
    else if not passes then Drops reason.Rejected
    else if not cfi then Drops reason.Rejected
    else if not unpaused then Drops reason.Rejected
    else if lacks_room s f then Drops reason.Missed
    else Stored)
by_verdict s f false short long passes cfi unpaused kind = refl
by_verdict s f true true long passes cfi unpaused kind = refl
by_verdict s f true false true passes cfi unpaused kind = refl
by_verdict s f true false false false cfi unpaused kind = refl
by_verdict s f true false false true false unpaused kind = refl
by_verdict s f true false false true true false kind = refl
by_verdict s f true false false true true true kind = by_room s f kind (lacks_room s f) _ _

by_state : (up on : Bool) (s : State) (a : Answer × State)
    → answer_in (if not up then (Drops reason.Down, s) else if not on then (Drops reason.Disabled, s) else a)
    ≡ (if not up then Drops reason.Down else if not on then Drops reason.Disabled else a.0)
by_state false on s a = refl
by_state true false s a = refl
by_state true true s a = refl

-- the tests that the table has
abbrev answer_of : State → List ℕ → Answer
answer_of s f =
    answer_by s.link (is_enabled s) (passes_address s.profile s.registers f) (nat_lt (length f + 4) 64)
    (nat_lt (longest s.profile s.registers) (length f + 4)) (passes_vlan s.registers f) (passes_cfi s.profile s.registers f)
    (passes_dpf s.profile s.registers f) (lacks_room s f)

arrival_by : (s : State) (f : List ℕ) → (arrival s f).0 ≡ answer_of s f
unfolding verdict
arrival_by s f =
    by_state s.link (is_enabled s) s _
    ∙ ap (λ (a : Answer).
    if not s.link then Drops reason.Down else if not (is_enabled s) then Drops reason.Disabled else a)
    (by_verdict (after_arrived s f) f (passes_address s.profile s.registers f) (nat_lt (length f + 4) 64)
    (nat_lt (longest s.profile s.registers) (length f + 4)) (passes_vlan s.registers f) (passes_cfi s.profile s.registers f)
    (passes_dpf s.profile s.registers f) (kind_of (destination f)))

-- ---- each reason, and the first test that holds
-- the table by its tests
abbrev table_by : Bool → Bool → Bool → Bool → Bool → Bool → Bool → Bool → Bool
    → Dropped → Dropped → Dropped → Dropped → Dropped → Dropped → Dropped → List (Bool × Dropped)
table_by up on known short long passes cfi unpaused full address undersize oversize vlan other paused missed =
    (not up, Down) ∷ (not on, Disabled) ∷ (not known, address) ∷ (short, undersize) ∷ (long, oversize)
    ∷ (not passes, vlan) ∷ (not cfi, other) ∷ (not unpaused, paused) ∷ (full, missed) ∷ []

-- why the filters reject a frame, by their tests
abbrev rejected_by : Bool → Bool → Bool → Dropped → Dropped → Dropped → Dropped → Dropped
rejected_by known passes cfi address vlan other paused =
    if not known then address else if not passes then vlan else if not cfi then other else paused

-- what it says of a drop
abbrev said : Reason → Dropped → Dropped → Dropped → Dropped → Dropped
said reason.Down rejects undersize oversize missed = Down
said reason.Disabled rejects undersize oversize missed = Disabled
said reason.Rejected rejects undersize oversize missed = rejects
said reason.Undersize rejects undersize oversize missed = undersize
said reason.Oversize rejects undersize oversize missed = oversize
said reason.Missed rejects undersize oversize missed = missed

-- an answer that is a drop says its reason
found : (d u o m : Dropped) (q r : Reason) → Drops q ≡ Drops r → Some (said q d u o m) ≡ Some (said r d u o m)
found d u o m q r h = let is : q ≡ r = cc in ap (λ (x : Reason). Some (said x d u o m)) is

first_said : (up on known short long passes cfi unpaused full : Bool) (a u o v c p m : Dropped) (r : Reason)
    → answer_by up on known short long passes cfi unpaused full ≡ Drops r
    → first_of (table_by up on known short long passes cfi unpaused full a u o v c p m)
    ≡ Some (said r (rejected_by known passes cfi a v c p) u o m)
first_said false on known short long passes cfi unpaused full a u o v c p m r h = found _ u o m reason.Down r h
first_said true false known short long passes cfi unpaused full a u o v c p m r h = found _ u o m reason.Disabled r h
first_said true true false short long passes cfi unpaused full a u o v c p m r h = found a u o m reason.Rejected r h
first_said true true true true long passes cfi unpaused full a u o v c p m r h = found _ u o m reason.Undersize r h
first_said true true true false true passes cfi unpaused full a u o v c p m r h = found _ u o m reason.Oversize r h
first_said true true true false false false cfi unpaused full a u o v c p m r h = found v u o m reason.Rejected r h
first_said true true true false false true false unpaused full a u o v c p m r h = found c u o m reason.Rejected r h
first_said true true true false false true true false full a u o v c p m r h = found p u o m reason.Rejected r h
first_said true true true false false true true true true a u o v c p m r h = found p u o m reason.Missed r h
first_said true true true false false true true true false a u o v c p m r h = cc

-- ---- what the functions answer
-- what is said of a drop of the frame for a reason
abbrev said_of : State → List ℕ → Reason → Dropped
said_of s f r =
    said r (rejected s.profile s.registers f) (Undersize (length f + 4)) (too_long s (length f + 4))
    (Missed (len_of (kept_frame s f)) (length s.fifo.frames))

pub drop_said : (s : State) (f : List ℕ) (r q : Reason) (d : Dropped) → r ≡ q → said_of s f q ≡ d → IsDropped s f r
    → why s f ≡ Some d
drop_said s f r q d same is dropped =
    first_said s.link (is_enabled s) (passes_address s.profile s.registers f) (nat_lt (length f + 4) 64)
    (nat_lt (longest s.profile s.registers) (length f + 4)) (passes_vlan s.registers f) (passes_cfi s.profile s.registers f)
    (passes_dpf s.profile s.registers f) (lacks_room s f)
    (unfiltered s.profile s.registers f) (Undersize (length f + 4)) (too_long s (length f + 4))
    (unlisted f) (Cfi (cfi_of f)) Pause (Missed (len_of (kept_frame s f)) (length s.fifo.frames)) r
    (sym (arrival_by s f) ∙ dropped)
    ∙ ap (λ (x : Reason). Some (said_of s f x)) same
    ∙ ap Some is

-- the destination lies in the first six octets, and the source in the next
pub destination_to : (f : List ℕ) → destination (to_of f) ≡ destination f
unfolding destination
destination_to f = refl

pub source_from : (f : List ℕ) → destination (from_of f) ≡ source f
unfolding destination source
source_from f = refl

-- a tagged frame is long enough for its tag
second : (a b c : Bool) → (a && (b && c)) ≡ true → b ≡ true
second true true c h = refl
second true false c h = cc
second false b c h = cc

pub tagged_long : (m : Registers) (f : List ℕ) → tagged m f ≡ true → 16 ≤ length f
unfolding tagged
tagged_long m f h =
    let long : nat_le 16 (length f) ≡ true = second (vme m) (nat_le 16 (length f)) (type_of f == vet m) h in
    grind (arith, nat_tests)

-- ---- what the laws say
-- the reason of an answer that says so
abbrev reason_in : Answer → Option Reason
reason_in (Drops r) = Some r
reason_in _ = None

is_drop : (a : Answer) (r : Reason) → (a ≡ Drops r) ↔ (reason_in a ≡ Some r)
is_drop Done r = (λ h. cc, λ h. cc)
is_drop (Value v) r = (λ h. cc, λ h. cc)
is_drop Stored r = (λ h. cc, λ h. cc)
is_drop (Drops s) r = (λ h. cc, λ h. cc)
is_drop Idle r = (λ h. cc, λ h. cc)
is_drop (Wrote i) r = (λ h. cc, λ h. cc)
is_drop (Fetched i) r = (λ h. cc, λ h. cc)
is_drop (Sent i n) r = (λ h. cc, λ h. cc)

reasons : (up on known short long passes cfi unpaused full : Bool) (a u o v c p m : Dropped)
    → reason_of a ≡ reason.Rejected → reason_of u ≡ reason.Undersize → reason_of o ≡ reason.Oversize
    → reason_of v ≡ reason.Rejected → reason_of c ≡ reason.Rejected → reason_of p ≡ reason.Rejected
    → reason_of m ≡ reason.Missed
    → option_map reason_of (first_of (table_by up on known short long passes cfi unpaused full a u o v c p m))
    ≡ reason_in (answer_by up on known short long passes cfi unpaused full)
reasons false on known short long passes cfi unpaused full a u o v c p m ha hu ho hv hc hp hm = refl
reasons true false known short long passes cfi unpaused full a u o v c p m ha hu ho hv hc hp hm = refl
reasons true true false short long passes cfi unpaused full a u o v c p m ha hu ho hv hc hp hm = ap Some ha
reasons true true true true long passes cfi unpaused full a u o v c p m ha hu ho hv hc hp hm = ap Some hu
reasons true true true false true passes cfi unpaused full a u o v c p m ha hu ho hv hc hp hm = ap Some ho
reasons true true true false false false cfi unpaused full a u o v c p m ha hu ho hv hc hp hm = ap Some hv
reasons true true true false false true false unpaused full a u o v c p m ha hu ho hv hc hp hm = ap Some hc
reasons true true true false false true true false full a u o v c p m ha hu ho hv hc hp hm = ap Some hp
reasons true true true false false true true true true a u o v c p m ha hu ho hv hc hp hm = ap Some hm
reasons true true true false false true true true false a u o v c p m ha hu ho hv hc hp hm = refl

none_or_stored : (up on known short long passes cfi unpaused full : Bool) (a u o v c p m : Dropped)
    → (answer_by up on known short long passes cfi unpaused full ≡ Stored)
    ↔ (first_of (table_by up on known short long passes cfi unpaused full a u o v c p m) ≡ None)
none_or_stored false on known short long passes cfi unpaused full a u o v c p m = (λ h. cc, λ h. cc)
none_or_stored true false known short long passes cfi unpaused full a u o v c p m = (λ h. cc, λ h. cc)
none_or_stored true true false short long passes cfi unpaused full a u o v c p m = (λ h. cc, λ h. cc)
none_or_stored true true true true long passes cfi unpaused full a u o v c p m = (λ h. cc, λ h. cc)
none_or_stored true true true false true passes cfi unpaused full a u o v c p m = (λ h. cc, λ h. cc)
none_or_stored true true true false false false cfi unpaused full a u o v c p m = (λ h. cc, λ h. cc)
none_or_stored true true true false false true false unpaused full a u o v c p m = (λ h. cc, λ h. cc)
none_or_stored true true true false false true true false full a u o v c p m = (λ h. cc, λ h. cc)
none_or_stored true true true false false true true true true a u o v c p m = (λ h. cc, λ h. cc)
none_or_stored true true true false false true true true false a u o v c p m = (λ h. refl, λ h. refl)

unfiltered_reason : (control : Bool) (k : Kind) (m : Registers) (to : List ℕ) → kind_of (destination to) ≡ k
    → reason_of (unfiltered_so control m to) ≡ reason.Rejected
unfiltered_reason true k m to is = refl
unfiltered_reason false kind.Unicast m to is = ap (λ (k : Kind). reason_of (unfiltered_by k m to)) is
unfiltered_reason false kind.Multicast m to is = ap (λ (k : Kind). reason_of (unfiltered_by k m to)) is
unfiltered_reason false kind.Broadcast m to is = ap (λ (k : Kind). reason_of (unfiltered_by k m to)) is

long_reason : (p : Profile) (n most : ℕ) → reason_of (too_long_by p n most) ≡ reason.Oversize
long_reason Table n most = refl
long_reason Adapter n most = refl

reason_of_why : (s : State) (f : List ℕ) → option_map reason_of (why s f) ≡ reason_in (arrival s f).0
reason_of_why s f =
    reasons s.link (is_enabled s) (passes_address s.profile s.registers f) (nat_lt (length f + 4) 64)
    (nat_lt (longest s.profile s.registers) (length f + 4)) (passes_vlan s.registers f) (passes_cfi s.profile s.registers f)
    (passes_dpf s.profile s.registers f) (lacks_room s f) _ _ _ _ _ _ _
    (unfiltered_reason (is_second s.profile && is_other_control f) (kind_of (destination (to_of f))) s.registers
    (to_of f) refl) refl (long_reason s.profile _ _) refl refl refl refl
    ∙ ap reason_in (sym (arrival_by s f))

pub drops_with_reason : (s : State) (f : List ℕ) (r : Reason)
    → IsDropped s f r ↔ (option_map reason_of (why s f) ≡ Some r)
drops_with_reason s f r =
    let both = is_drop (arrival s f).0 r in
    (λ h. reason_of_why s f ∙ both.0 h, λ h. both.1 (sym (reason_of_why s f) ∙ h))

pub stores_without_reason : (s : State) (f : List ℕ) → ((arrival s f).0 ≡ Stored) ↔ (why s f ≡ None)
stores_without_reason s f =
    let both = none_or_stored s.link (is_enabled s) (passes_address s.profile s.registers f) (nat_lt (length f + 4) 64)
    (nat_lt (longest s.profile s.registers) (length f + 4)) (passes_vlan s.registers f) (passes_cfi s.profile s.registers f)
    (passes_dpf s.profile s.registers f) (lacks_room s f)
    (unfiltered s.profile s.registers f) (Undersize (length f + 4)) (too_long s (length f + 4))
    (unlisted f) (Cfi (cfi_of f)) Pause (Missed (len_of (kept_frame s f)) (length s.fifo.frames)) in
    (λ h. both.0 (sym (arrival_by s f) ∙ h), λ h. arrival_by s f ∙ both.1 h)

-- the tests look at the same in both
record LooksTheSame (s t : State) : Type 0 where
  registers : t.registers ≡ s.registers
  link : t.link ≡ s.link
  fifo : t.fifo ≡ s.fifo
  profile : t.profile ≡ s.profile

abbrev state_in : Answer × State → State
state_in r = r.1

room_keeps : (s : State) (f : List ℕ) (kind : Kind) (r : Reason) (full : Bool)
    → answer_in (if full then (Drops reason.Missed, after_miss s) else (Stored, after_accept s f kind)) ≡ Drops r
    → LooksTheSame s (state_in (if full then (Drops reason.Missed, after_miss s) else (Stored, after_accept s f kind)))
room_keeps s f kind r true h = record { registers = refl; link = refl; fifo = refl; profile = refl }
room_keeps s f kind r false h = cc

verdict_keeps : (s : State) (f : List ℕ) (v : Verdict) (r : Reason) → answer_in (judgement s f v) ≡ Drops r
    → LooksTheSame s (state_in (judgement s f v))
verdict_keeps s f Reject r h = record { registers = refl; link = refl; fifo = refl; profile = refl }
verdict_keeps s f TooShort r h = record { registers = refl; link = refl; fifo = refl; profile = refl }
verdict_keeps s f TooLong r h = record { registers = refl; link = refl; fifo = refl; profile = refl }
verdict_keeps s f (Accept kind) r h = room_keeps s f kind r (lacks_room s f) h

state_keeps : (up on : Bool) (s : State) (a : Answer × State) (r : Reason)
    → (answer_in a ≡ Drops r → LooksTheSame s (state_in a))
    → answer_in (if not up then (Drops reason.Down, s) else if not on then (Drops reason.Disabled, s) else a) ≡ Drops r
    → LooksTheSame s
    (state_in (if not up then (Drops reason.Down, s) else if not on then (Drops reason.Disabled, s) else a))
state_keeps false on s a r keeps h = record { registers = refl; link = refl; fifo = refl; profile = refl }
state_keeps true false s a r keeps h = record { registers = refl; link = refl; fifo = refl; profile = refl }
state_keeps true true s a r keeps h = keeps h

-- that it was counted among all is no matter
of_counted : (s t : State) (f : List ℕ) → LooksTheSame (after_arrived s f) t → LooksTheSame s t
of_counted s t f same =
    record { registers = same.registers; link = same.link; fifo = same.fifo; profile = same.profile }

drop_keeps : (s : State) (f : List ℕ) (r : Reason) → IsDropped s f r → LooksTheSame s (arrival s f).1
drop_keeps s f r =
    state_keeps s.link (is_enabled s) s _ r
    (λ dropped. of_counted s _ f (verdict_keeps (after_arrived s f) f (verdict s.profile s.registers f) r dropped))

answer_same : (s t : State) (f : List ℕ) → LooksTheSame s t → answer_of t f ≡ answer_of s f
answer_same s t f same = λ i.
    answer_of (record s {
      registers = same.registers i;
      link = same.link i;
      fifo = same.fifo i;
      profile = same.profile i;
    }) f

why_same : (s t : State) (f : List ℕ) → LooksTheSame s t → why t f ≡ why s f
why_same s t f same = λ i.
    why (record s {
      registers = same.registers i;
      link = same.link i;
      fifo = same.fifo i;
      profile = same.profile i;
    }) f

pub drops_again : (s : State) (f : List ℕ) (r : Reason) → IsDropped s f r → IsDropped (arrival s f).1 f r
drops_again s f r h =
    arrival_by (arrival s f).1 f ∙ answer_same s (arrival s f).1 f (drop_keeps s f r h) ∙ sym (arrival_by s f) ∙ h

pub same_why_after : (s : State) (f : List ℕ) (r : Reason) → IsDropped s f r → why (arrival s f).1 f ≡ why s f
same_why_after s f r h = why_same s (arrival s f).1 f (drop_keeps s f r h)
