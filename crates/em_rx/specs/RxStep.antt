-- The two parts of what a step of the receive engine gives.
use Rattle.std.specs.Prelude.{◌≡◌, ◌≤◌, ◌<◌, ◌^◌, ◌+◌, ℕ, length, true, false}
use Rattle.em_mem.specs.OldOctets.{OldOctets, Saves}
use Rattle.em_rx.specs.Records.{saved_of, step_patch}
use Rattle.em_rx.specs.RxUndo.{RxUndo, Nothing, Step}
use Rattle.em_rx.specs.declared.undo.OldPiece.{OldPiece}
use Rattle.em_rx.specs.declared.step.RxAnswer.{RxAnswer}
use Rattle.em_rx.specs.declared.step.RxAnswer.TheVariants as answer
use Rattle.em_rx.specs.declared.step.RxStep.{RxStep}
use Rattle.em_rx.specs.declared.step.RxStep.TheVariants.{Idle, Wrote}

-- what it answers
abbrev pub answer_of : RxStep → RxAnswer
answer_of Idle = answer.Idle
answer_of (Wrote index next causes piece) = answer.Wrote index next causes

-- what takes it back, with the octets that it saved
abbrev pub undo_of : RxStep → OldOctets → RxUndo
undo_of Idle old = Nothing
undo_of (Wrote index next causes piece) old = Step (step_patch piece old)

-- how many octets it saved
abbrev pub saved_by : RxStep → ℕ
saved_by Idle = 0
saved_by (Wrote index next causes piece) = saved_of piece

-- an idle step saves none; where there was room for more than a step saves, it saved them before the others
abbrev pub KeepsStep : RxStep → ℕ → OldOctets → OldOctets → Type 0
KeepsStep Idle more old new = new ≡ old
KeepsStep (Wrote index next causes piece) more old new =
    (saved_of piece + more ≤ length new.octets)
    × (saved_of piece + more ≤ length old.octets → Saves (saved_of piece) old new)

-- a piece lies with its descriptor's end below 2^40, one of no octet is not the frame's last, and one of a single octet is:
-- so a record of it has few bits
pub record IsSmall (p : OldPiece) : Type 0 where
  pub none : p.len ≡ 0 → p.left ≡ false
  pub one : p.len ≡ 1 → p.left ≡ true
  pub most : p.len ≤ 16_384
  pub buffer : p.buffer < 2 ^ 40
  pub end_at : p.end_at < 2 ^ 40

abbrev pub IsSmallStep : RxStep → Type 0
IsSmallStep Idle = Unit {0}
IsSmallStep (Wrote index next causes piece) = IsSmall piece
