use Rattle.std.proofs.Common.{◌∙◌, sym, ap}
use Rattle.em_regs.specs.declared.table.Row.{Row}
use Rattle.em_regs.specs.Table.{is_in}
use Rattle.em_regs.proofs.ProfileLaws.{none_of_profile}
use Rattle.em_regs.proofs.reg.Reg.of_offset_in.Goals as goal

pub returns-else-is_in-clause-none : goal.returns-else-is_in-clause-none
returns-else-is_in-clause-none c =
    none_of_profile c.args.profile c.args.offset c.in_ok-reg.reg
    c.in_ok-reg.ensures.table
    (ap (λ (row : Row). is_in row.since c.args.profile) (sym c.row.ensures) ∙ sym c.is_in.ensures ∙ c.if-is_in.false)
