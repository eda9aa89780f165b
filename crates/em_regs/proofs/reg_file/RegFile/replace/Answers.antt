use Rattle.std.proofs.Common.{ap, ◌∙◌}
use Rattle.std.specs.FinMap as map
use Rattle.em_regs.proofs.reg_file.RegFile.replace.Goals as goal

pub returns-clause-state : goal.returns-clause-state
returns-clause-state c =
    c.swap.ensures.state ∙ ap (λ o. map.insert c.args.self.now o c.args.value) c.place_of.ensures.place

pub returns-clause-at : goal.returns-clause-at
returns-clause-at c = c.swap.ensures.at ∙ c.place_of.ensures.place
