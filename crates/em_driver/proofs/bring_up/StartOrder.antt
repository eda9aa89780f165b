-- A start leads to a driven state, in which nothing is queued and what was stored since its reset waits.
use Rattle.std.proofs.Common.{◌≡◌, ◌∙◌, ℕ, ◌+◌, ◌==◌, List, [], length, refl, sym, ap, subst}
use Rattle.std.proofs.Common.{arith, append-nil, inl, inr, Option, Some, None, Ok}
use Rattle.std.specs.Prelude.{bit_and}
use Rattle.em_regs.specs.Table.{offset_of}
use Rattle.em_regs.specs.declared.reg.Reg.TheVariants.{Ctrl, Imc, Rctl, Tctl}
use Rattle.em_regs.proofs.ProfileLaws.{reg_of-offset_of}
use Rattle.em_regs.specs.declared.profile.Profile.TheVariants.{Table}
use Rattle.em_step.specs.Access.{reset as reset_of}
use Rattle.em_step.specs.Event.{writes}
use Rattle.em_step.specs.State.{State}
use Rattle.em_step.specs.Step.{step}
use Rattle.em_step.specs.declared.event.Answer.TheVariants.{Done}
use Rattle.em_step.proofs.ProfileLaws.{event_keeps}
use Rattle.em_step.proofs.ResetLaws.{zero_in_table}
use Rattle.em_turn.specs.Turn.{event_of}
use Rattle.em_driver.specs.Course.{done, write, Follows}
use Rattle.em_driver.specs.Driven.{IsGoodFor}
use Rattle.em_driver.specs.Layout.{IsGoodLayout, IsPlaced}
use Rattle.em_driver.proofs.rings.MemoryUnits.{good_same}
use Rattle.em_driver.specs.DeviceOff.{IsOff}
use Rattle.em_driver.specs.Start.{Start, device_reset, until_reset, after_reset, start, eeprom}
use Rattle.em_driver.specs.Start.{receive_address, multicast_table, receive_ring, transmit_ring, descriptors}
use Rattle.em_driver.specs.Started.{StartsInOrder}
use Rattle.em_driver.specs.World.{World, Accesses, IsSpared, present}
use Rattle.em_driver.specs.declared.layout.Layout.{Layout}
use Rattle.em_driver.specs.declared.outcome.Cause.{Cause}
use Rattle.em_driver.specs.declared.outcome.Cause.TheVariants.{Memory}
use Rattle.em_driver.proofs.course.CourseSteps.{ends, resets_on, writes_on}
use Rattle.em_driver.proofs.bring_up.TxRingMade.{IsStarted, receiving_enabled, sending_enabled, tx_descriptors_made}
use Rattle.em_driver.proofs.bring_up.TxRingMade.{tx_registers, tx_registers_made}
use Rattle.em_driver.proofs.bring_up.RxRingMade.{IsMaking, link_made, eeprom_made, address_made, table_made}
use Rattle.em_driver.proofs.bring_up.RxRingMade.{descriptors_made}
use Rattle.em_driver.proofs.bring_up.RxRingMade.{registers_made, rx_registers}
use Rattle.em_driver.proofs.bring_up.MemorySize.{turn_range}
use Rattle.em_driver.proofs.order.Stages.{Stage, At, IsClosed, closed_by, event_at, not_none}
use Rattle.em_driver.proofs.order.Accessed.{written_so}

-- ---- until the reset

-- memory lies from a base on, and ends there, and the device is of the first profile
abbrev IsThere : ℕ → ℕ → Stage
IsThere base end s stored = (s.base ≡ base) × ((length s.memory ≡ end) × (s.profile ≡ Table))

there_closed : (l : Layout) (base end : ℕ) → IsClosed l (IsThere base end)
there_closed l base end =
    closed_by l (IsThere base end)
    (λ s stored t r h is.
    let k = turn_range s t r is in
    (k.base ∙ h.0, (k.size ∙ h.1.0, event_keeps s (event_of t) r is ∙ h.1.1)))
    (λ s t stored h e. (e.base ∙ h.0, (e.size ∙ h.1.0, e.profile ∙ h.1.1)))

masked : (base end : ℕ) (s t : State) (stored : List (List ℕ)) → IsThere base end s stored
    → step s (writes (offset_of Imc) 0xFFFF_FFFF) ≡ Ok (Done, t) → IsThere base end t stored
masked base end s t stored h is =
    let at = written_so s t (offset_of Imc) Imc 0xFFFF_FFFF (λ p. reg_of-offset_of p Imc (omega arith) refl) is in
    (ap (λ x. x.base) at ∙ h.0, (ap (λ x. length x.memory) at ∙ h.1.0, ap (λ x. x.profile) at ∙ h.1.1))

is_off : (s : State) → s.profile ≡ Table → IsOff (reset_of s)
is_off s first = record {
  rctl = zero_in_table s Rctl first (omega arith, refl) (λ e. cc) (λ e. cc);
  tctl = zero_in_table s Tctl first (omega arith, refl) (λ e. cc) (λ e. cc);
  untagged = ap (λ v. bit_and v 0x4000_0000 == 0x4000_0000)
      (zero_in_table s Ctrl first (omega arith, refl) (λ e. cc) (λ e. cc));
  profile = first;
  fifo = refl;
  gathered = refl;
}

-- the first stage after it
made_by_reset : (l : Layout) (base end : ℕ) (s t : State) (stored : List (List ℕ)) → IsGoodLayout base end l
    → IsThere base end s stored → step s (writes (offset_of Ctrl) 0x0400_0000) ≡ Ok (Done, t) → IsMaking l t.wire [] 0 t []
made_by_reset l base end s t stored good h is =
    subst (λ x. IsMaking l x.wire [] 0 x [])
    (sym (written_so s t (offset_of Ctrl) Ctrl 0x0400_0000 (λ p. reg_of-offset_of p Ctrl (omega arith) refl) is))
    (record {
      off = is_off s h.1.1;
      good = good_same l h.0 h.1.0 good;
      holds = tt;
      fresh = λ i low. absurd (omega arith);
      none = refl;
      wire = refl;
    })

-- ---- from the reset on

made_from_reset : (l : Layout) (sent : List (List ℕ)) (w v : World) (n : ℕ) → IsPlaced l → IsSpared l w.spared
    → IsMaking l sent [] 0 (present w) []
    → Follows w (after_reset l) n None v → At l (IsStarted l sent) w.stored v
unfolding after_reset receive_ring transmit_ring Follows
made_from_reset l sent w v n placed spared h f =
    let good = h.good in
    let base : ℕ = (present w).base in
    let end : ℕ = length (present w).memory in
    let before : List (List ℕ) = w.stored in
    let sending : Start = write Tctl 0x0004_010A (done None) in
    let transmit : Start = descriptors l.tx_ring l.tx_count l.tx_buffers (tx_registers l sending) in
    let receiving : Start = write Rctl 0x0000_801A transmit in
    let receive : Start = descriptors l.rx_ring l.rx_count l.rx_buffers (rx_registers l receiving) in
    let table : Start = multicast_table receive in
    let behind = λ (words : List ℕ). receive_address words table in
    let a = link_made l sent before w v (eeprom behind) n
    (record { stored = []; is = sym (append-nil before); holds = h; spared = spared }) f in
    let b = eeprom_made l sent before a.world v behind a.events a.at a.follows in
    let c = address_made l sent b.0 before b.1.world v table b.1.events b.1.at b.1.follows in
    let d = table_made l sent before c.world v receive c.events c.at c.follows in
    let e = descriptors_made l sent before d.world v (rx_registers l receiving) d.events d.at d.follows in
    let g = registers_made l sent base end good placed before e.world v receiving e.events e.at e.follows in
    let i = receiving_enabled l sent placed before g.world v transmit g.events g.at g.follows in
    let j = tx_descriptors_made l sent before i.world v (tx_registers l sending) i.events i.at i.follows in
    let k = tx_registers_made l sent base end good placed before j.world v sending j.events j.at j.follows in
    let o = sending_enabled l sent before k.world v (done None) k.events k.at k.follows in
    subst (At l (IsStarted l sent) before) {x = o.world} {y = v} (sym {a = v} {b = o.world} o.follows.world_is) o.at

-- ---- the whole

reset_follows : (w m r : World) → Accesses w (writes (offset_of Imc) 0xFFFF_FFFF) Done m
    → Accesses m (writes (offset_of Ctrl) 0x0400_0000) Done r → Follows w (until_reset (done None)) 2 None r
unfolding until_reset
reset_follows w m r first second =
    let end : Start = done None in
    let started : Option Cause = None in
    writes_on w m r Imc 0xFFFF_FFFF (device_reset end) 2 1 started first refl
    (resets_on m r r (Some Memory) end 1 0 started second refl (ends r started))

from_mask : (l : Layout) (w m v : World) (n k : ℕ) → IsGoodFor (present w) l → IsPlaced l
    → IsSpared l w.spared → (present w).profile ≡ Table
    → Accesses w (writes (offset_of Imc) 0xFFFF_FFFF) Done m → n ≡ 1 + k
    → Follows m (device_reset (after_reset l)) k None v → StartsInOrder l w n v
unfolding Follows until_reset
from_mask l w m v n k good placed spared profile first count (inl (refused, none, is)) = absurd (not_none _ is)
from_mask l w m v n k good placed spared profile first count (inr step) =
    let base : ℕ = (present w).base in
    let end : ℕ = length (present w).memory in
    let r : World = step.mid in
    let there = event_at l (IsThere base end) (IsThere base end) w.stored w m (writes (offset_of Imc) 0xFFFF_FFFF) Done
    (there_closed l base end) (masked base end)
    (record { stored = []; is = sym (append-nil w.stored); holds = (refl, (refl, profile)); spared = spared }) first in
    let made = event_at l (IsThere base end) (λ s stored. IsMaking l s.wire [] 0 s []) w.stored m r
    (writes (offset_of Ctrl) 0x0400_0000) Done (there_closed l base end)
    (λ s t stored h is. made_by_reset l base end s t stored good h is) there step.step in
    let started = made_from_reset l (present r).wire r v step.others placed made.spared made.holds step.more in
    record {
      reset = r;
      others = step.others;
      is_reset = reset_follows w m r first step.step;
      follows = step.more;
      counted = omega (arith, count, step.count);
      stored = started.stored;
      is_stored = started.is;
      undisturbed = record { driven = started.holds.driven; spared = started.spared };
      queued = started.holds.queued;
      waiting = started.holds.waits;
      wire = started.holds.wire;
    }

pub start_order : (l : Layout) (w v : World) (n : ℕ) → IsGoodFor (present w) l → IsPlaced l
    → IsSpared l w.spared → (present w).profile ≡ Table → Follows w (start l) n None v → StartsInOrder l w n v
unfolding Follows start until_reset
start_order l w v n good placed spared profile f =
    from_mask l w f.mid v n f.others good placed spared profile f.step f.count f.more
