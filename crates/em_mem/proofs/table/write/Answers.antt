use Rattle.std.proofs.Common.{subst}
use Rattle.em_mem.specs.declared.TheConstants.{PARTS}
use Rattle.em_mem.specs.Pages.{IsAt, table_made}
use Rattle.em_mem.proofs.RowLaws.{none_at}
use Rattle.em_mem.proofs.table.write.Goals as goal

pub unreachable-requires : goal.unreachable-requires
unreachable-requires c =
    none_at PARTS c.args.at (subst (λ t. IsAt (table_made t) c.args.at) c.in-None.is c.requires.made)
