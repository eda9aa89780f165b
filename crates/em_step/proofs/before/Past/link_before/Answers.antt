use Rattle.std.proofs.Common.{◌∙◌, ap, sym}
use Rattle.em_step.specs.Before.{link_before}
use Rattle.em_step.proofs.BeforeLaws.{link_undone, with_words}
use Rattle.em_step.proofs.before.Past.link_before.Goals as goal

pub returns-clause-before : goal.returns-clause-before
returns-clause-before c = λ cells fits is.
    link_undone (with_words cells c.args.self.now.latches) c.args.self.now.effect
    ∙ ap (link_before c.args.self.now.effect) is ∙ sym c.link_told.ensures
