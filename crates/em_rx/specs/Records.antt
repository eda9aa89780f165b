-- The records of the code, with the old octets that lie elsewhere.
use Rattle.std.specs.Prelude.{ℕ, ◌+◌, ◌≤◌, length, take}
use Rattle.em_mem.specs.Memory.{part}
use Rattle.em_mem.specs.OldOctets.{OldOctets}
use Rattle.em_rx.specs.FramePatch.{FramePatch}
use Rattle.em_rx.specs.StepPatch.{StepPatch}
use Rattle.em_rx.specs.RxUndo as undo
use Rattle.em_rx.specs.declared.undo.OldFrame.{OldFrame}
use Rattle.em_rx.specs.declared.undo.OldPiece.{OldPiece}
use Rattle.em_rx.specs.declared.undo.RxUndo.{RxUndo}
use Rattle.em_rx.specs.declared.undo.RxUndo.TheVariants.{Nothing, Places, Frame, Step}

-- an arrival's record: its octets are the first ones
abbrev pub frame_patch : OldFrame → OldOctets → FramePatch
frame_patch r o = record { octets = take r.len o.octets; entry = r.entry }

-- a receive step's record: the octets of its piece are the first ones, and behind them lie those of the descriptor
abbrev pub step_patch : OldPiece → OldOctets → StepPatch
step_patch r o = record {
  first = record { at = r.buffer; octets = take r.len o.octets };
  second = record { at = r.end_at; octets = part o.octets r.len 8 };
  left = r.left;
}

-- how many octets a receive step saves: those of its piece, and 8 of the descriptor
abbrev pub saved_of : OldPiece → ℕ
saved_of r = r.len + 8

-- a record with octets of its own
abbrev pub record_of : RxUndo → undo.RxUndo
record_of Nothing = undo.Nothing
record_of (Places places) = undo.Places places
record_of (Frame frame old) = undo.Frame (frame_patch frame old)
record_of (Step piece old) = undo.Step (step_patch piece old)

-- it has all octets that it speaks of
abbrev pub IsWhole : RxUndo → Type 0
IsWhole Nothing = Unit {0}
IsWhole (Places places) = Unit {0}
IsWhole (Frame frame old) = frame.len ≤ length old.octets
IsWhole (Step piece old) = saved_of piece ≤ length old.octets
