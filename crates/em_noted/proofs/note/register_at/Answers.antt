use Rattle.std.proofs.Common.{ap, arith}
use Rattle.em_regs.specs.declared.profile.Profile.TheVariants.{Adapter}
use Rattle.em_regs.specs.Table.{kept_by}
use Rattle.em_regs.proofs.TableLaws.{below_space, none_found}
use Rattle.em_noted.proofs.note.register_at.Goals as goal

-- no register lies so far behind
pub returns-else-offset-lt-OFFSETS : goal.returns-else-offset-lt-OFFSETS
returns-else-offset-lt-OFFSETS c =
    ap (kept_by Adapter)
    (none_found c.args.offset (λ reg has lies. omega (arith, below_space reg has, c.if-offset-lt-OFFSETS.false)))
