use Rattle.std.proofs.Common.{◌∙◌, ◌+◌, ◌*◌, ◌/◌, ◌%◌, ◌∷◌, [], true, false, None, ap, sym, refl, length, arith}
use Rattle.em_mem.specs.declared.TheConstants.{PAGE_OCTETS, PARTS, TABLE_OCTETS, DIRECTORY_OCTETS, DIRECTORY_PAGES}
use Rattle.em_mem.specs.Memory.{part}
use Rattle.em_mem.specs.Pages.{table_octets, table_made, IsWholeTable}
use Rattle.em_mem.proofs.LevelLaws.{put_level, get_level, same_level}
use Rattle.em_mem.proofs.RowLaws.{table_has, table_marks}
use Rattle.em_mem.proofs.directory.write_at.Goals as goal

pub write-requires-clause-made : goal.write-requires-clause-made
write-requires-clause-made c =
    sym (get_level table_made IsWholeTable PARTS table_marks c.args.tables.now (c.args.at / PARTS) c.args.at
    (c.args.at % PARTS) _ false
    c.requires.whole (omega (arith, c.requires.at)) (omega arith) (omega arith)) ∙ c.requires.made

pub returns-clause-octets : goal.returns-clause-octets
returns-clause-octets c =
    put_level table_octets IsWholeTable TABLE_OCTETS table_has c.args.tables.now (c.args.at / PARTS)
    (PAGE_OCTETS * c.args.at + c.args.from) (PAGE_OCTETS * (c.args.at % PARTS) + c.args.from)
    c.args.written.now c.write.new.table _ c.requires.whole (omega (arith, c.requires.at)) (omega arith)
    (omega (arith, c.requires.range)) c.write.ensures.octets

pub returns-clause-made : goal.returns-clause-made
returns-clause-made c =
    same_level table_made c.args.tables.now (c.args.at / PARTS) c.write.new.table _ c.write.ensures.made
