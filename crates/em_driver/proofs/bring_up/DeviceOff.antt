-- A device that neither receives nor sends, from its reset on.
use Rattle.std.proofs.Common.{◌≡◌, ◌∙◌, ◌⊎◌, ◌||◌, ◌==◌, ℕ, Bool, true, false, not}
use Rattle.std.proofs.Common.{List, [], refl, sym, ap, subst, inl, inr, arith}
use Rattle.std.proofs.Common.{Ok, if◌then◌else◌}
use Rattle.std.specs.Prelude.{nat_le, bit_and, All}
use Rattle.em_filter.specs.Bits.{takes_long}
use Rattle.em_regs.specs.declared.profile.Profile.{Profile}
use Rattle.em_regs.specs.declared.reg.Reg.TheVariants.{Tctl}
use Rattle.em_regs.specs.Setup.{value_of, rx_setup, tx_setup, buffer_size}
use Rattle.em_rx.specs.Frame.{Frame}
use Rattle.em_tx.specs.Control.{is_still}
use Rattle.em_tx.specs.Engine.{transmit}
use Rattle.em_tx.specs.Ring as tx
use Rattle.em_tx.specs.declared.answer.TxAnswer.TheVariants as tx_answer
use Rattle.em_step.specs.Engines.{is_halted, sending, transmitted, tx_control, tx_step, tx_stepped}
use Rattle.em_step.specs.State.{State}
use Rattle.em_step.specs.Step.{step}
use Rattle.em_step.specs.Whole.{Admits, IsPlain, KeepsAllButFifo, ReceivesWhole}
use Rattle.em_step.specs.declared.event.Answer.{Answer}
use Rattle.em_step.specs.declared.event.Answer.TheVariants.{Idle}
use Rattle.em_step.proofs.WholeLaws.{arrived, received_whole}
use Rattle.em_driver.specs.DeviceOff.{IsOff, Rests}
use Rattle.em_turn.specs.Turn.{event_of, stored_by}
use Rattle.em_turn.specs.declared.turn.Turn.{Turn}
use Rattle.em_turn.specs.declared.turn.Turn.TheVariants.{Arrive, RxStep, TxStep}
use Rattle.em_driver.proofs.order.Accessed.{ok_is}
use Rattle.em_driver.proofs.rings.ReceiveRing.{no_sequences, takes_octets}

-- ---- transmitting is not enabled

idle_is : (e a b c : Bool) → e ≡ false → (not e || a || b || c) ≡ true
idle_is e a b c off = ap (λ x. not x || a || b || c) off

-- so a transmit step does nothing
pub tx_idle : (s : State) (r : Answer × State) → value_of s.registers Tctl ≡ 0 → tx_step s ≡ Ok r → (Idle, s) ≡ r
unfolding transmit
tx_idle s r off h =
    let q = tx_setup s.registers in
    let none : q.enabled ≡ false = ap (λ v. bit_and v 0x2 == 0x2) off in
    let idle : tx.is_idle q ≡ true
    = idle_is q.enabled (nat_le q.count q.head) (nat_le q.count q.tail) (q.head == q.tail) none in
    let still : is_still (tx_control s) ≡ true = ap (λ (b : Bool). b || is_halted s) idle in
    let is : transmitted s ≡ Ok (tx_answer.Idle, sending s) = if_true _ _ _ still in
    ok_is (Idle, s) r (sym (ap (tx_stepped s) is) ∙ h)
  where
    if_true : {A : Type 0} (b : Bool) (x y : A) → b ≡ true → (if b then x else y) ≡ x
    if_true b x y e = ap (λ c. if c then x else y) e

-- ---- turns

rests : (s t : State) → t ≡ s → Rests s t
rests s t is = record {
  registers = ap (λ x. x.registers) is;
  base = ap (λ x. x.base) is;
  memory = ap (λ x. x.memory) is;
  fifo = ap (λ x. x.fifo) is;
  gathered = ap (λ x. x.gathered) is;
  wire = ap (λ x. x.wire) is;
  profile = ap (λ x. x.profile) is;
}

not_enabled : (s : State) → IsOff s → (rx_setup s.registers).enabled ≡ true → ⊥
not_enabled s h on = let off : false ≡ true = sym (ap (λ v. bit_and v 0x2 == 0x2) h.rctl) ∙ on in cc

admitted_off : (s t : State) (f : List ℕ) (answer : Answer) → IsOff s → KeepsAllButFifo s t → Admits s f answer t
    → Rests s t × (stored_by (Arrive f) answer ≡ [])
admitted_off s t f answer h k (inl dropped) = (
  record {
    registers = k.registers;
    base = k.base;
    memory = k.memory;
    fifo = dropped.2;
    gathered = k.gathered;
    wire = k.wire;
    profile = k.profile;
  },
  ap (stored_by (Arrive f)) dropped.1,
)
admitted_off s t f answer h k (inr stored) = absurd (not_enabled s h stored.1)

received_off : (s t : State) → IsOff s → (t ≡ s) ⊎ ((f : List ℕ) × (frames : List Frame) × ReceivesWhole s f frames t)
    → Rests s t
received_off s t h (inl same) = rests s t same
received_off s t h (inr r) = absurd (not_enabled s h r.2.enabled)

-- a turn leaves all but the latches, and stores nothing
pub off_turn : (s : State) (t : Turn) (r : Answer × State) → IsOff s → step s (event_of t) ≡ Ok r
    → Rests s r.1 × (stored_by t r.0 ≡ [])
off_turn s (Arrive f) r h is =
    let short : takes_long s.profile s.registers ≡ false
    = ap (λ (p : Profile). takes_long p s.registers) h.profile ∙ ap (λ v. bit_and v 0x20 == 0x20) h.rctl in
    let a = arrived s f r is short h.untagged
    (no_sequences s h.profile) in
    admitted_off s r.1 f r.0 h a.0 a.1
off_turn s RxStep r h is = (
  received_off s r.1 h
      (received_whole s r is (ap buffer_size h.rctl) (ap (λ x. x.taken) h.fifo)
      (subst (λ x. All IsPlain x.frames) (sym h.fifo) (λ k d low. absurd (omega arith)))
      (takes_octets s h.profile)),
  refl,
)
off_turn s TxStep r h is = (rests s r.1 (ap (λ x. x.1) (sym (tx_idle s r h.tctl is))), refl)
