use Rattle.std.proofs.Common.{◌∙◌, ap, sym}
use Rattle.em_regs.specs.Table.{row_of}
use Rattle.em_step.specs.Before.{register_before_by}
use Rattle.em_step.proofs.BeforeLaws.{register_undone}
use Rattle.em_step.proofs.before.Past.register_before.Goals as goal

pub returns-clause-before : goal.returns-clause-before
returns-clause-before c =
    let kind = (row_of c.args.reg).kind in
    λ cells fits is. register_undone kind cells c.args.self.now c.args.reg fits
    ∙ ap (register_before_by kind c.args.self.now c.args.reg) is ∙ sym c.register_told.ensures
