use Rattle.std.proofs.Common.{◌∙◌, ◌+◌, ◌*◌, ◌/◌, ◌%◌, ◌∷◌, [], true, false, None, ap, sym, refl, length, arith}
use Rattle.em_mem.specs.declared.TheConstants.{PAGE_OCTETS, PARTS, TABLE_OCTETS, DIRECTORY_OCTETS, DIRECTORY_PAGES}
use Rattle.em_mem.specs.Memory.{part}
use Rattle.em_mem.specs.Pages.{table_octets, table_made, IsWholeTable}
use Rattle.em_mem.proofs.LevelLaws.{part_level, all_at}
use Rattle.em_mem.proofs.RowLaws.{table_has, all_of}
use Rattle.em_mem.proofs.directory.octets_at.Goals as goal

pub returns : goal.returns
returns c =
    c.octets.ensures ∙ ap (λ t. part (table_octets t) (PAGE_OCTETS *
    (c.args.at % PARTS)) PAGE_OCTETS) c.index-tables-at.is
    ∙ sym (part_level table_octets IsWholeTable TABLE_OCTETS table_has c.args.tables.now (c.args.at / PARTS)
    (PAGE_OCTETS * c.args.at) (PAGE_OCTETS * (c.args.at % PARTS)) PAGE_OCTETS c.index-tables-at.result
    c.requires.whole (omega (arith, c.requires.at)) (omega arith) (omega arith))
