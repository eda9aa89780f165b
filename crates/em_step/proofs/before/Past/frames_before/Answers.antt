use Rattle.std.proofs.Common.{◌∙◌, ap, arith}
use Rattle.std.specs.Prelude.{max}
use Rattle.em_step.specs.Before.{frames_before}
use Rattle.em_step.proofs.BeforeLaws.{frames_put_back, frames_told}
use Rattle.em_step.proofs.before.Past.frames_before.Goals as goal

pub returns-clause-before : goal.returns-clause-before
returns-clause-before c = λ cells fits is.
    let now = c.args.now in
    let few = frames_told c.args.self.now cells now (max now 877) fits is (omega arith) (omega arith) in
    frames_put_back c.args.self.now cells fits ∙ ap (frames_before c.args.self.now.effect) is
    ∙ omega (arith, few, c.frames_told.ensures)
