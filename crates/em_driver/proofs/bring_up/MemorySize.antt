-- No turn changes where memory lies, in whatever state.
use Rattle.std.proofs.Common.{◌≡◌, ◌∙◌, ◌||◌, ◌≤◌, ℕ, ◌+◌, Bool, true, false, not, if◌then◌else◌, List, [], ◌∷◌}
use Rattle.std.proofs.Common.{length, drop, refl, sym, ap, arith, Option, Some, None, Ok, Err}
use Rattle.std.specs.Prelude.{nat_lt}
use Rattle.std.proofs.lemmas.List.{length-take}
use Rattle.em_mem.specs.Memory.{leaves, put}
use Rattle.em_mem.proofs.NeedsLaws.{lies_by_test}
use Rattle.em_mem.proofs.PutLaws.{length-part, length-put}
use Rattle.em_regs.specs.Setup.{tx_setup}
use Rattle.em_filter.specs.declared.outcome.Verdict.{Verdict}
use Rattle.em_filter.specs.declared.outcome.Verdict.TheVariants as verdict
use Rattle.em_filter.specs.Filters.{verdict as verdict_of}
use Rattle.em_rx.specs.Fifo.{Fifo, first, next}
use Rattle.em_rx.specs.Receive as rx
use Rattle.em_rx.specs.declared.step.RxAnswer.TheVariants as rx_answer
use Rattle.em_rx.specs.declared.refusal.RxRefusal.TheVariants as rx_refusal
use Rattle.em_rx.specs.declared.control.RxControl.{RxControl}
use Rattle.em_rx.proofs.ControlLaws.{length_back}
use Rattle.em_regs.specs.declared.setup.TxSetup.{TxSetup}
use Rattle.em_tx.specs.Cells.{Shown}
use Rattle.em_tx.specs.Control.{first as first_of, is_still}
use Rattle.em_tx.specs.Descriptor.{rs}
use Rattle.em_tx.specs.Engine as tx
use Rattle.em_tx.specs.Frame.{frame}
use Rattle.em_tx.specs.Ring as tx_ring
use Rattle.em_tx.specs.declared.answer.TxAnswer.{TxAnswer}
use Rattle.em_tx.specs.declared.answer.TxAnswer.TheVariants as tx_answer
use Rattle.em_tx.specs.declared.refusal.TxRefusal.{TxRefusal}
use Rattle.em_tx.specs.declared.refusal.TxRefusal.TheVariants as tx_refusal
use Rattle.em_step.specs.Arrival.{arrival, is_enabled, judgement, lacks_room}
use Rattle.em_step.specs.Arrival.{after_accept, after_arrived, after_miss}
use Rattle.em_step.specs.Engines.{after_tx_answer, rx_stepped, rx_step, sending, tx_stepped, tx_step}
use Rattle.em_step.specs.Engines.{rx_control, tx_control, with_shown}
use Rattle.em_step.specs.State.{State}
use Rattle.em_step.specs.Step.{step}
use Rattle.em_step.specs.declared.event.Answer.{Answer}
use Rattle.em_step.specs.declared.event.Answer.TheVariants.{Stored, Dropped}
use Rattle.em_step.specs.declared.event.Reason.TheVariants.{Down, Disabled, Missed}
use Rattle.em_step.specs.declared.refusal.Refusal.TheVariants.{Length}
use Rattle.em_turn.specs.Turn.{event_of}
use Rattle.em_turn.specs.declared.turn.Turn.{Turn}
use Rattle.em_turn.specs.declared.turn.Turn.TheVariants.{Arrive, RxStep, TxStep}
use Rattle.em_driver.proofs.order.Accessed.{ok_is}

-- memory begins and ends where it did
pub record SameRange (s t : State) : Type 0 where
  pub base : t.base ≡ s.base
  pub size : length t.memory ≡ length s.memory

-- so it does in a state that is known
in_other : {s t u : State} → u ≡ t → SameRange s t → SameRange s u
in_other is h = record { base = ap (λ x. x.base) is ∙ h.base; size = ap (λ x. length x.memory) is ∙ h.size }

-- ---- arrivals

admitted : (s : State) (f : List ℕ) (b : Bool) (a : Answer × State)
    → SameRange s a.1 → SameRange s (if b then (Dropped Missed, after_miss s) else a).1
admitted s f true a is = record { base = refl; size = refl }
admitted s f false a is = is

judged : (s : State) (f : List ℕ) (v : Verdict) → SameRange s (judgement s f v).1
judged s f verdict.Reject = record { base = refl; size = refl }
judged s f verdict.Undersize = record { base = refl; size = refl }
judged s f verdict.Oversize = record { base = refl; size = refl }
judged s f (verdict.Accept kind) = admitted s f (lacks_room s f) (Stored, after_accept s f kind) (record { base = refl; size = refl })

arrived_by : (s : State) (f : List ℕ) (up on : Bool)
    → SameRange s (if not up then (Dropped Down, s) else if not on then (Dropped Disabled, s)
    else judgement (after_arrived s f) f (verdict_of s.profile s.registers f)).1
arrived_by s f false on = record { base = refl; size = refl }
arrived_by s f true false = record { base = refl; size = refl }
arrived_by s f true true =
    let all = judged (after_arrived s f) f (verdict_of s.profile s.registers f) in record { base = all.base; size = all.size }

arrived : (s : State) (f : List ℕ) (long : Bool) (r : Answer × State)
    → (if long then Err Length else Ok (arrival s f)) ≡ Ok r → SameRange s r.1
arrived s f true r is = cc
arrived s f false r is = in_other (ap (λ x. x.1) (sym (ok_is _ r is))) (arrived_by s f s.link (is_enabled s))

-- ---- receive steps

-- a piece of a frame, and its descriptor
written : (m : List ℕ) (a b : ℕ) (d e : List ℕ) → a + length d ≤ length m → b + length e ≤ length m
    → length (put (put m a d) b e) ≡ length m
written m a b d e one two =
    let size = length-put m a d one in
    length-put (put m a d) b e (omega (arith, size)) ∙ size

delivered : (q : RxControl) (m : List ℕ) (fifo : Fifo) → rx.descriptor_at q + 16 ≤ length m
    → rx.place_of q (rx.descriptor q m) + rx.count_of q (rx.descriptor q m) fifo ≤ length m
    → length (rx.after_write q m fifo) ≡ length m
delivered q m fifo descriptor buffer =
    let d : List ℕ = rx.descriptor q m in
    let n : ℕ = rx.count_of q d fifo in
    let few : length (next fifo n) ≤ n = omega (arith, length-take n (drop fifo.taken (first fifo).octets)) in
    let eight : length (rx.back_of q d fifo) ≡ 8
    = length_back q d fifo (length-part m (rx.descriptor_at q) 16 descriptor) in
    written m (rx.place_of q d) (rx.descriptor_at q + 8) (next fifo n) (rx.back_of q d fifo)
    (omega (arith, few, buffer)) (omega (arith, eight, descriptor))

received_by : (s : State) (idle a b : Bool) (r : Answer × State)
    → leaves s.base s.memory (rx.descriptor_at (rx_control s)) 16 ≡ a
    → rx.is_outside (rx_control s) s.base s.memory s.fifo ≡ b
    → rx_stepped s (if idle then Ok (record { answer = rx_answer.Idle; memory = s.memory; fifo = s.fifo })
    else if a then Err rx_refusal.DmaRange
    else if b then Err rx_refusal.DmaRange
    else Ok (rx.delivery (rx_control s) s.memory s.fifo)) ≡ Ok r
    → SameRange s r.1
received_by s true a b r x y is = in_other (ap (λ z. z.1) (sym (ok_is _ r is))) (record { base = refl; size = refl })
received_by s false true b r x y is = cc
received_by s false false true r x y is = cc
received_by s false false false r x y is =
    let q = rx_control s in
    let d : List ℕ = rx.descriptor q s.memory in
    in_other (ap (λ z. z.1) (sym (ok_is _ r is)))
    (record {
      base = refl;
      size = delivered q s.memory s.fifo (lies_by_test s.base s.memory (rx.descriptor_at q) 16 x).to
          (lies_by_test s.base s.memory (rx.place_of q d) (rx.count_of q d s.fifo) y).to;
    })

received : (s : State) (r : Answer × State) → rx_step s ≡ Ok r → SameRange s r.1
received s r is =
    let q = rx_control s in
    received_by s (rx.is_idle q s.fifo) (leaves s.base s.memory (rx.descriptor_at q) 16)
    (rx.is_outside q s.base s.memory s.fifo) r refl refl is

-- ---- transmit steps

reported : (at : ℕ) (b : Bool) (m : List ℕ) → at + 16 ≤ length m
    → length (if b then put m (at + 12) (1 ∷ []) else m) ≡ length m
reported at true m held = length-put m (at + 12) (1 ∷ []) (omega arith)
reported at false m held = refl

-- a descriptor that was fetched, or whose frame was sent
handled_by : (q : TxSetup) (d : List ℕ) (s : Shown) (octets f : List ℕ) (b : Bool)
    → tx_ring.place q + 16 ≤ length s.memory
    → length (if b then tx.send q d s f else tx.fetch q d s octets).1.memory ≡ length s.memory
handled_by q d s octets f true held = reported (tx_ring.place q) (rs d) s.memory held
handled_by q d s octets f false held = reported (tx_ring.place q) (rs d) s.memory held

handled : (q : TxSetup) (d : List ℕ) (s : Shown) → tx_ring.place q + 16 ≤ length s.memory
    → length (tx.handle q d s).1.memory ≡ length s.memory
unfolding tx.handle
handled q d s held =
    let octets = tx.gather s d in
    handled_by q d s octets (frame q d octets) (tx.sends d (length octets)) held

answered : (s : State) (a : TxAnswer) → SameRange s (after_tx_answer s a).1
answered s tx_answer.Idle = record { base = refl; size = refl }
answered s (tx_answer.Fetched index next causes) = record { base = refl; size = refl }
answered s (tx_answer.Sent index next causes octets kind) = record { base = refl; size = refl }

stepped : (s : State) (why : Option TxRefusal) (x : TxAnswer × Shown) (r : Answer × State)
    → length x.1.memory ≡ length s.memory → tx_stepped s (tx.unless why x) ≡ Ok r → SameRange s r.1
stepped s None x r size is =
    let a = answered (with_shown s x.1) x.0 in
    in_other (ap (λ z. z.1) (sym (ok_is _ r is))) (record { base = a.base; size = a.size ∙ size })
stepped s (Some why) x r size is = cc

transmitted_by : (s : State) (idle a : Bool) (r : Answer × State)
    → leaves s.base s.memory (tx_ring.place (tx_setup s.registers)) 16 ≡ a
    → tx_stepped s (if idle then Ok (tx_answer.Idle, sending s)
    else if a then Err tx_refusal.DmaRange
    else tx.unless (tx.refusal s.profile s.base s.gathered s.memory (first_of (tx_control s) s.memory))
    (tx.handle (tx_setup s.registers) (first_of (tx_control s) s.memory) (sending s))) ≡ Ok r
    → SameRange s r.1
transmitted_by s true a r x is = in_other (ap (λ z. z.1) (sym (ok_is _ r is))) (record { base = refl; size = refl })
transmitted_by s false true r x is = cc
transmitted_by s false false r x is =
    let q = tx_setup s.registers in
    let d : List ℕ = first_of (tx_control s) s.memory in
    stepped s (tx.refusal s.profile s.base s.gathered s.memory d) (tx.handle q d (sending s)) r
    (handled q d (sending s) (lies_by_test s.base s.memory (tx_ring.place q) 16 x).to) is

transmitted : (s : State) (r : Answer × State) → tx_step s ≡ Ok r → SameRange s r.1
unfolding tx.transmit
transmitted s r is =
    let q = tx_setup s.registers in
    transmitted_by s (is_still (tx_control s)) (leaves s.base s.memory (tx_ring.place q) 16) r refl is

-- ---- turns

pub turn_range : (s : State) (t : Turn) (r : Answer × State) → step s (event_of t) ≡ Ok r → SameRange s r.1
turn_range s (Arrive f) r is = arrived s f (nat_lt (length f) 14 || nat_lt 20_000 (length f)) r is
turn_range s RxStep r is = received s r is
turn_range s TxStep r is = transmitted s r is
