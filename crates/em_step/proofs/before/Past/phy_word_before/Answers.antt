use Rattle.std.proofs.Common.{◌∙◌, ap, sym}
use Rattle.em_step.specs.Before.{phy_word_before}
use Rattle.em_step.proofs.BeforeLaws.{phy_word_put_back}
use Rattle.em_step.proofs.before.Past.phy_word_before.Goals as goal

pub returns-clause-before : goal.returns-clause-before
returns-clause-before c = λ cells fits is.
    let k = c.args.word.number in
    phy_word_put_back c.args.self.now cells k fits ∙ ap (phy_word_before c.args.self.now.effect k) is
    ∙ sym c.phy_word_told.ensures
