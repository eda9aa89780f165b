-- How many octets records hold.
use Rattle.std.proofs.Common.{◌≡◌, ℕ, ◌+◌, ◌≤◌, Bool, true, false, min, List, if◌then◌else◌}
use Rattle.std.proofs.Common.{length, take, drop, refl, arith, length-drop}
use Rattle.std.proofs.lemmas.List.{length-take}
use Rattle.em_mem.specs.Memory.{part}
use Rattle.em_mem.specs.OldOctets.{OldOctets}
use Rattle.em_rx.specs.Fifo.{Fifo}
use Rattle.em_rx.specs.Receive.{count_of, descriptor, is_idle, octets_written}
use Rattle.em_rx.proofs.ControlLaws.{count_most}
use Rattle.em_rx.specs.declared.control.RxControl.{RxControl}
use Rattle.em_rx.specs.RxStep.{KeepsStep, saved_by, undo_of}
use Rattle.em_rx.specs.Undo.{octets_held}
use Rattle.em_rx.specs.declared.step.RxStep.{RxStep}
use Rattle.em_rx.specs.declared.step.RxStep.TheVariants.{Idle, Wrote}
use Rattle.em_rx.specs.declared.undo.OldPiece.{OldPiece}

-- those of a piece and of a descriptor's end, as far as there are so many
pub held_of_piece : (r : OldPiece) (o : OldOctets) →
    length (take r.len o.octets) + length (part o.octets r.len 8) ≡ min (r.len + 8) (length o.octets)
held_of_piece r o =
    omega (arith, length-take r.len o.octets, length-take 8 (drop r.len o.octets), length-drop r.len o.octets)

-- the record of a step has the octets that the step saved
pub held_by : (r : RxStep) (k : ℕ) (o n : OldOctets) → KeepsStep r k o n → octets_held (undo_of r n) ≡ saved_by r
held_by Idle k o n keeps = refl
held_by (Wrote index next causes piece) k o n keeps = omega (arith, held_of_piece piece n, keeps.0)

pub room_by : (r : RxStep) (k : ℕ) (o n : OldOctets) → KeepsStep r k o n → saved_by r ≤ length n.octets
room_by Idle k o n keeps = omega arith
room_by (Wrote index next causes piece) k o n keeps = omega (arith, keeps.0)

unless_idle : (idle : Bool) (n : ℕ) → n ≤ 16_384 → (if idle then 0 else n + 8) ≤ 16_392
unless_idle true n few = omega arith
unless_idle false n few = omega arith

pub most_written : (q : RxControl) (m : List ℕ) (fifo : Fifo) → q.setup.buffer ≤ 16_384 → octets_written q m fifo ≤ 16_392
most_written q m fifo few =
    unless_idle (is_idle q fifo) (count_of q (descriptor q m) fifo)
    (omega (arith, few, count_most q (descriptor q m) fifo))
