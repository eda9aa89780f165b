-- No event changes the profile.
use Rattle.std.proofs.Common.{◌≡◌, ℕ, Bool, true, false, cond, List, length, Option, Some, None, refl, subst}
use Rattle.std.specs.Prelude.{Result, Ok, Err, not, ◌==◌, ◌||◌, nat_lt}
use Rattle.em_mem.specs.Memory.{leaves, put}
use Rattle.em_regs.specs.declared.profile.Profile.{Profile}
use Rattle.em_regs.specs.declared.reg.Reg.{Reg}
use Rattle.em_regs.specs.declared.table.Kind.{Kind}
use Rattle.em_regs.specs.declared.table.Kind.TheVariants.{Stored, Control, EepromRead, Status, Interrupt, Counter}
use Rattle.em_regs.specs.declared.table.Kind.TheVariants.{EepromPins, PhyCommand, Uncounted}
use Rattle.em_regs.specs.Table.{answers_at, reg_of, row_of}
use Rattle.em_latch.specs.Latches.{is_latched}
use Rattle.em_filter.specs.Filters.{verdict}
use Rattle.em_filter.specs.declared.outcome.Verdict.{Verdict}
use Rattle.em_filter.specs.declared.outcome.Verdict.TheVariants.{Reject, Accept}
use Rattle.em_filter.specs.declared.outcome.Verdict.TheVariants.{Undersize as TooShort, Oversize as TooLong}
use Rattle.em_rx.specs.declared.step.RxAnswer.{RxAnswer}
use Rattle.em_rx.specs.declared.step.RxAnswer.TheVariants as rx_answer
use Rattle.em_rx.specs.declared.refusal.RxRefusal.{RxRefusal}
use Rattle.em_rx.specs.Receive as rx
use Rattle.em_tx.specs.Cells.{Shown}
use Rattle.em_tx.specs.declared.answer.TxAnswer.{TxAnswer}
use Rattle.em_tx.specs.declared.answer.TxAnswer.TheVariants as tx_answer
use Rattle.em_tx.specs.declared.refusal.TxRefusal.{TxRefusal}
use Rattle.em_step.specs.Access.{after_link, after_read, after_write_by, differ, gives, has, is_reset_by}
use Rattle.em_step.specs.Access.{after_write}
use Rattle.em_step.specs.Arrival.{after_arrived, arrival, is_enabled, judgement, lacks_room}
use Rattle.em_step.specs.Engines.{after_rx_answer, after_tx_answer, received, rx_stepped, transmitted, tx_stepped}
use Rattle.em_step.specs.Engines.{with_outcome, with_shown}
use Rattle.em_step.specs.Event.{Event, reads, writes, pokes, arrives, links, receives, transmits}
use Rattle.em_step.specs.State.{State}
use Rattle.em_step.specs.Step.{at_none, at_register, step}
use Rattle.em_step.specs.declared.event.Answer.{Answer}
use Rattle.em_step.specs.declared.event.Answer.TheVariants.{Done, Value}
use Rattle.em_step.specs.declared.refusal.Refusal.{Refusal}
use Rattle.em_step.specs.declared.refusal.Refusal.TheVariants.{Length, NoRegister, Range}

-- an outcome leaves the profile
abbrev Keeps : Profile → Answer × State → Type 0
Keeps p r = r.1.profile ≡ p

given : (p : Profile) (x r : Answer × State) (m : Result (Answer × State) Refusal) → m ≡ Ok x → Keeps p x → m ≡ Ok r
    → Keeps p r
given p x r m is keeps same = subst (Keeps p) (let e : x ≡ r = cc in e) keeps

either : (b : Bool) (x y : State) (p : Profile) → x.profile ≡ p → y.profile ≡ p → (cond b x y).profile ≡ p
either true x y p left right = left
either false x y p left right = right

either_outcome : (b : Bool) (x y : Answer × State) (p : Profile) → Keeps p x → Keeps p y → Keeps p (cond b x y)
either_outcome true x y p left right = left
either_outcome false x y p left right = right

-- ---- accesses
none_keeps : (b : Bool) (s : State) (a : Answer) (r : Answer × State) → cond b (Ok (a, s)) (Err NoRegister) ≡ Ok r
    → Keeps s.profile r
none_keeps true s a r is = given s.profile (a, s) r (Ok (a, s)) refl refl is
none_keeps false s a r is = cc

access_keeps : (found : Option Reg) (access : Reg → Answer × State) (s : State) (o : ℕ) (a : Answer)
    (r : Answer × State) → ((reg : Reg) → Keeps s.profile (access reg))
    → at_register found access (at_none s o a) ≡ Ok r → Keeps s.profile r
access_keeps None access s o a r keeps is = none_keeps (answers_at s.profile o) s a r is
access_keeps (Some reg) access s o a r keeps is =
    given s.profile (access reg) r (Ok (access reg)) refl (keeps reg) is

write_keeps : (kind : Kind) (s : State) (reg : Reg) (v : ℕ) → (after_write_by kind s reg v).profile ≡ s.profile
write_keeps Stored s reg v = refl
write_keeps Control s reg v = either (is_reset_by Control v) _ _ s.profile refl refl
write_keeps EepromRead s reg v = either (has v 0x1) _ _ s.profile refl refl
write_keeps Status s reg v = refl
write_keeps Interrupt s reg v = refl
write_keeps Counter s reg v = refl
write_keeps EepromPins s reg v = refl
write_keeps PhyCommand s reg v = refl
write_keeps Uncounted s reg v = refl

-- ---- memory, and a frame that arrives
unless : (few many : Bool) (e f : Refusal) (p : Profile) (x r : Answer × State) → Keeps p x
    → cond few (Err e) (cond many (Err f) (Ok x)) ≡ Ok r → Keeps p r
unless true many e f p x r keeps is = cc
unless false true e f p x r keeps is = cc
unless false false e f p x r keeps is = given p x r (Ok x) refl keeps is

unless_one : (bad : Bool) (e : Refusal) (p : Profile) (x r : Answer × State) → Keeps p x
    → cond bad (Err e) (Ok x) ≡ Ok r → Keeps p r
unless_one true e p x r keeps is = cc
unless_one false e p x r keeps is = given p x r (Ok x) refl keeps is

judged_keeps : (s : State) (f : List ℕ) (v : Verdict) → Keeps s.profile (judgement s f v)
judged_keeps s f Reject = refl
judged_keeps s f TooShort = refl
judged_keeps s f TooLong = refl
judged_keeps s f (Accept kind) = either_outcome (lacks_room s f) _ _ s.profile refl refl

arrival_keeps : (s : State) (f : List ℕ) → Keeps s.profile (arrival s f)
arrival_keeps s f = either_outcome (not s.link) _ _ s.profile refl
    (either_outcome (not (is_enabled s)) _ _ s.profile refl (judged_keeps (after_arrived s f) f (verdict s.profile s.registers f)))

-- ---- engines
rx_answer_keeps : (s : State) (a : RxAnswer) → Keeps s.profile (after_rx_answer s a)
rx_answer_keeps s rx_answer.Idle = refl
rx_answer_keeps s (rx_answer.Wrote index next causes) = refl

rx_keeps : (s : State) (o : Result rx.Outcome RxRefusal) (r : Answer × State) → rx_stepped s o ≡ Ok r
    → Keeps s.profile r
rx_keeps s (Ok o) r is =
    given s.profile (after_rx_answer (with_outcome s o) o.answer) r _ refl (rx_answer_keeps (with_outcome s o) o.answer) is
rx_keeps s (Err e) r is = cc

tx_answer_keeps : (s : State) (a : TxAnswer) → Keeps s.profile (after_tx_answer s a)
tx_answer_keeps s tx_answer.Idle = refl
tx_answer_keeps s (tx_answer.Fetched index next causes) = refl
tx_answer_keeps s (tx_answer.Sent index next causes octets kind) = refl

tx_keeps : (s : State) (o : Result (TxAnswer × Shown) TxRefusal) (r : Answer × State) → tx_stepped s o ≡ Ok r
    → Keeps s.profile r
tx_keeps s (Ok o) r is =
    given s.profile (after_tx_answer (with_shown s o.1) o.0) r _ refl (tx_answer_keeps (with_shown s o.1) o.0) is
tx_keeps s (Err e) r is = cc

pub event_keeps : (s : State) (e : Event) (r : Answer × State) → step s e ≡ Ok r → r.1.profile ≡ s.profile
event_keeps s (reads o) r is =
    access_keeps (reg_of s.profile o) (λ reg. (Value (gives s reg), after_read s reg)) s o (Value 0) r
    (λ reg. either (is_latched reg) _ _ s.profile refl refl) is
event_keeps s (writes o v) r is =
    access_keeps (reg_of s.profile o) (λ reg. (Done, after_write s reg v)) s o Done r
    (λ reg. write_keeps (row_of reg).kind s reg v) is
event_keeps s (pokes a octets) r is =
    unless (leaves s.base s.memory a (length octets)) (length octets == 0 || nat_lt 16_384 (length octets)) Range Length
    s.profile (Done, record s { memory = put s.memory a octets }) r refl is
event_keeps s (arrives f) r is =
    unless_one (nat_lt (length f) 14 || nat_lt 20_000 (length f)) Length s.profile (arrival s f) r (arrival_keeps s f) is
event_keeps s (links up) r is =
    given s.profile (Done, after_link s up) r (Ok (Done, after_link s up)) refl
    (either (differ up s.link) _ _ s.profile refl refl) is
event_keeps s receives r is = rx_keeps s (received s) r is
event_keeps s transmits r is = tx_keeps s (transmitted s) r is
