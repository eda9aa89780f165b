-- What others do before an access, and accesses, in a world whose state is as a driver keeps it.
use Rattle.std.proofs.Common.{◌≡◌, ◌∙◌, ℕ, List, [], ◌++◌, map, refl, sym, ap, subst, append_assoc, append-nil}
use Rattle.std.proofs.Common.{false, Some, Ok, if◌then◌else◌}
use Rattle.std.specs.Prelude.{bit_and}
use Rattle.std.proofs.lemmas.List.{map-append}
use Rattle.em_regs.specs.declared.reg.Reg.{Reg}
use Rattle.em_regs.specs.RegFile as registers
use Rattle.em_regs.specs.declared.profile.Profile.{Profile}
use Rattle.em_regs.specs.Table.{mask_of, offset_of, reg_of}
use Rattle.em_latch.specs.Latches.{is_latched}
use Rattle.em_step.specs.Access.{after_write}
use Rattle.em_step.specs.Event.{reads, writes}
use Rattle.em_step.specs.State.{State}
use Rattle.em_step.specs.Step.{step}
use Rattle.em_step.specs.Whole.{padded}
use Rattle.em_step.specs.declared.event.Answer.{Answer}
use Rattle.em_step.specs.declared.event.Answer.TheVariants.{Done}
use Rattle.em_driver.specs.Driven.{IsDriven, IsDrivenBut}
use Rattle.em_driver.specs.Order.{InOrder, IsUndisturbed, queued, waiting}
use Rattle.em_turn.specs.Turn.{stored_in}
use Rattle.em_driver.specs.World.{World, Accesses, Passes, IsSpared, present}
use Rattle.em_driver.specs.declared.layout.Layout.{Layout}
use Rattle.em_driver.proofs.rings.SideRegisters.{rx_side, tx_side, IsOther}
use Rattle.em_driver.proofs.order.Accessed.{read_keeps, written}
use Rattle.em_driver.proofs.order.EventsOfOthers.{others_move}
use Rattle.em_driver.proofs.order.Stages.{At, IsClosed, IsBeside, passed_at, beside_access}
use Rattle.em_driver.proofs.rings.OneTurn.{Moves, moves_none, moves_on, moves_same, but_moves}
use Rattle.em_driver.proofs.rings.OneTurn.{driven_moves, moves_word}

-- ---- what the others do

-- the driver's state moves on in every event of others
moves_closed : (l : Layout) (s : State) → IsClosed l (Moves l s)
moves_closed l s t stored e r h out is =
    moves_on l s t r.1 stored (stored_in e r.0) h (others_move l t e r (but_moves l s t stored h) out is)

-- what the others leave before an access
abbrev pub Passed : Layout → World → World → Type 0
Passed l w v = At l (Moves l (present w)) w.stored v

passed_none : (l : Layout) (w : World) → IsDrivenBut l (present w) → IsSpared l w.spared → Passed l w w
passed_none l w h spared =
    record { stored = []; is = sym (append-nil w.stored); holds = moves_none l (present w) h; spared = spared }

pub passed : (l : Layout) (w v : World) → IsDrivenBut l (present w) → IsSpared l w.spared → Passes w v → Passed l w v
passed l w v h spared p =
    passed_at l (Moves l (present w)) w.stored w v (moves_closed l (present w)) (passed_none l w h spared) p

-- where nobody disturbs the driver
pub passed_by : (l : Layout) (w v : World) → IsUndisturbed l w → Passes w v → Passed l w v
passed_by l w v h p = passed l w v h.driven.but h.spared p

pub passed_but : (l : Layout) (w v : World) → Passed l w v → IsDrivenBut l (present v)
passed_but l w v p = but_moves l (present w) (present v) p.stored p.holds

pub passed_driven : (l : Layout) (w v : World) → IsDriven l (present w) → Passed l w v → IsDriven l (present v)
passed_driven l w v h p = driven_moves l (present w) (present v) p.stored p.holds h

pub still_undisturbed : (l : Layout) (w v : World) → IsUndisturbed l w → Passed l w v → IsUndisturbed l v
still_undisturbed l w v h p = record { driven = passed_driven l w v h.driven p; spared = p.spared }

-- behind an access
pub beside_spared : (l : Layout) (w m v : World) → Passed l w m → IsBeside m v → IsSpared l v.spared
beside_spared l w m v p same = subst (IsSpared l) (sym same.spared) p.spared

-- ---- order

pub order_on : (l : Layout) (w v u : World) (a b c d : List (List ℕ)) → InOrder l w v a b → InOrder l v u c d
    → InOrder l w u (a ++ c) (b ++ d)
order_on l w v u a b c d h k =
    let q = λ (x : World). queued l (present x) in
    record {
      undisturbed = k.undisturbed;
      stored = h.stored ++ k.stored;
      is_stored = k.is_stored ∙ ap (λ x. x ++ k.stored) h.is_stored ∙ append_assoc w.stored h.stored k.stored;
      sent = h.sent ++ k.sent;
      is_sent = k.is_sent ∙ ap (λ x. x ++ k.sent) h.is_sent ∙ append_assoc (present w).wire h.sent k.sent;
      receive = sym (append_assoc (waiting l (present w)) h.stored k.stored)
          ∙ ap (λ x. x ++ k.stored) h.receive
          ∙ append_assoc a (waiting l (present v)) k.stored
          ∙ ap (λ x. a ++ x) k.receive
          ∙ sym (append_assoc a c (waiting l (present u)));
      transmit = ap (λ x. (present w).wire ++ (q w ++ x)) (map-append padded b d)
          ∙ ap (λ x. (present w).wire ++ x) (sym (append_assoc (q w) (map padded b) (map padded d)))
          ∙ sym (append_assoc (present w).wire (q w ++ map padded b) (map padded d))
          ∙ ap (λ x. x ++ map padded d) h.transmit
          ∙ append_assoc (present v).wire (q v) (map padded d)
          ∙ k.transmit;
    }

-- what passes before an access and what the access leaves, where it neither hands over nor takes
pub order_moved : (l : Layout) (w m v : World) → IsDriven l (present w) → Passed l w m
    → Moves l (present m) (present v) [] → IsBeside m v → InOrder l w v [] []
order_moved l w m v h p k same =
    let all = moves_on l (present w) (present m) (present v) p.stored [] p.holds k in
    record {
      undisturbed = record {
        driven = driven_moves l (present w) (present v) (p.stored ++ []) all h;
        spared = beside_spared l w m v p same;
      };
      stored = p.stored;
      is_stored = same.stored ∙ p.is;
      sent = all.sending.sent;
      is_sent = all.sending.is_sent;
      receive = sym (all.receiving.waiting ∙ ap (λ x. waiting l (present w) ++ x) (append-nil p.stored));
      transmit = ap (λ x. (present w).wire ++ x) (append-nil (queued l (present w))) ∙ sym all.sending.wire;
    }

beside_none : (v : World) → IsBeside v v
beside_none v = record { stored = refl; spared = refl }

pub order_none : (l : Layout) (w v : World) → IsUndisturbed l w → v ≡ w → InOrder l w v [] []
order_none l w v h is =
    subst (λ x. InOrder l w x [] []) (sym is)
    (order_moved l w w w h.driven (passed_none l w h.driven.but h.spared) (moves_none l (present w) h.driven.but)
    (beside_none w))

pub order_passes : (l : Layout) (w v : World) → IsUndisturbed l w → Passes w v → InOrder l w v [] []
order_passes l w v h p =
    let k = passed_by l w v h p in
    order_moved l w v v h.driven k (moves_none l (present v) (passed_but l w v k)) (beside_none v)

-- ---- accesses that neither hand over nor take

pub moves_read : (l : Layout) (s t : State) (o : ℕ) (a : Answer) → IsDrivenBut l s → step s (reads o) ≡ Ok (a, t)
    → Moves l s t []
moves_read l s t o a h is =
    let k = read_keeps s t o a is in
    moves_same l s t h k.registers k.base k.memory k.fifo k.gathered k.wire k.profile

pub order_read : (l : Layout) (w v : World) (o : ℕ) (a : Answer) → IsUndisturbed l w → Accesses w (reads o) a v
    → InOrder l w v [] []
order_read l w v o a h k =
    let p = passed_by l w k.mid h k.passes in
    order_moved l w k.mid v h.driven p
    (moves_read l (present k.mid) (present v) o a (passed_but l w k.mid p) k.does.0) (beside_access w v (reads o) a k)

-- a write of a register that neither side goes by
pub order_write : (l : Layout) (w v : World) (reg : Reg) {value : ℕ} → IsOther rx_side (offset_of reg)
    → IsOther tx_side (offset_of reg) → ((p : Profile) → reg_of p (offset_of reg) ≡ Some reg) → is_latched reg ≡ false
    → ((x : State) → after_write x reg value
    ≡ (if is_latched reg then x else record x { registers = registers.put x.registers reg value }))
    → IsUndisturbed l w → Accesses w (writes (offset_of reg) value) Done v → InOrder l w v [] []
order_write l w v reg {value = value} rx tx there stored by h a =
    let p = passed_by l w a.mid h a.passes in
    let s = present a.mid in
    let but = passed_but l w a.mid p in
    let u : State = record s { registers = registers.put s.registers reg value } in
    let moves : Moves l s u [] = moves_word l s (offset_of reg) (bit_and value (mask_of reg)) but rx tx in
    order_moved l w a.mid v h.driven p
    (subst (λ x. Moves l s x [])
    (sym (written s (present v) (offset_of reg) reg value there stored by a.does.0)) moves)
    (beside_access w v _ _ a)
