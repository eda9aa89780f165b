use Rattle.std.proofs.Common.{arith}
use Rattle.em_rx.specs.Records.{frame_patch}
use Rattle.em_rx.proofs.BeforeLaws.{frames_before_frame}
use Rattle.em_rx.proofs.undo.OldFrame.frames_before.Goals as goal

pub returns-clause-before : goal.returns-clause-before
returns-clause-before c = λ cells o fits is.
    omega (arith, frames_before_frame cells (frame_patch c.args.self.now o) fits, is, c.saturating_sub.ensures)
