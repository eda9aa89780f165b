use Rattle.std.proofs.Common.{subst}
use Rattle.em_mem.specs.declared.TheConstants.{DIRECTORY_PAGES}
use Rattle.em_mem.specs.Pages.{IsAt, directory_made}
use Rattle.em_mem.proofs.RowLaws.{none_at}
use Rattle.em_mem.proofs.directory.write.Goals as goal

pub unreachable-requires : goal.unreachable-requires
unreachable-requires c =
    none_at DIRECTORY_PAGES c.args.at (subst (λ t. IsAt (directory_made t) c.args.at) c.in-None.is c.requires.made)
