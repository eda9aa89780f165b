use Rattle.std.proofs.Common.{sym}
use Rattle.em_kept.proofs.ShownNames.{solid_name}
use Rattle.em_kept.proofs.source.write_name.Goals as goal

pub returns-then-are_solid : goal.returns-then-are_solid
returns-then-are_solid g c =
    record { writes = rw (solid_name c.args.name.now (sym c.if-are_solid.ensures)) c.write_whole.ensures.writes }
