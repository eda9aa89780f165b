use Rattle.std.proofs.Common.{◌∙◌, ap}
use Rattle.std.specs.Option.{option_map}
use Rattle.em_regs.specs.Table.{reg_of}
use Rattle.em_step.specs.Access.{gives}
use Rattle.em_journal.specs.View.{View}
use Rattle.em_journal.proofs.machine.Machine.look.Goals as goal

pub returns : goal.returns
returns c = c.look.ensures ∙ ap (λ (v : View). option_map (gives v.present) (reg_of v.present.profile c.args.offset)) c.self.view_is
