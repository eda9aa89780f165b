-- They are at most as many as there are entries.
use Rattle.std.proofs.Common.{◌≡◌, ℕ, ◌+◌, Bool, ap, arith, length}
use Rattle.em_rx.specs.Before.{frames_before_step}
use Rattle.em_rx.specs.Fifo.{shows}
use Rattle.em_rx.specs.Records.{step_patch}
use Rattle.em_rx.specs.StepPatch.{StepPatch}
use Rattle.em_rx.proofs.BeforeLaws.{frames_before_piece, frames_fit}
use Rattle.em_rx.proofs.undo.OldPiece.frames_before.Goals as goal

pub returns-then-self-clause-before : goal.returns-then-self-clause-before
returns-then-self-clause-before c = λ cells m o fits is.
    let p : StepPatch = step_patch c.args.self.now o in
    let n : ℕ = length (shows cells).frames in
    let more : frames_before_step c.args.self.now.left n ≡ n + 1
    = ap (λ (b : Bool). frames_before_step b n) c.if-self.true in
    omega (arith, frames_before_piece cells m p fits, frames_fit cells m p fits, more, is, c.saturating_add.ensures)
