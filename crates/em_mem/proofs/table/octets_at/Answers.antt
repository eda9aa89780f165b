use Rattle.std.proofs.Common.{◌∙◌, ◌+◌, ◌*◌, ◌/◌, ◌%◌, ◌∷◌, [], true, false, None, ap, sym, refl, length, arith}
use Rattle.em_mem.specs.declared.TheConstants.{PAGE_OCTETS, PARTS, TABLE_OCTETS, DIRECTORY_OCTETS, DIRECTORY_PAGES}
use Rattle.em_mem.specs.Memory.{part}
use Rattle.em_mem.specs.Pages.{page_octets, page_made, IsWholePage}
use Rattle.em_mem.proofs.LevelLaws.{part_level, all_at}
use Rattle.em_mem.proofs.RowLaws.{page_has, all_of}
use Rattle.em_mem.proofs.table.octets_at.Goals as goal

pub returns : goal.returns
returns c =
    c.octets.ensures ∙ ap page_octets c.index-pages-at.is
    ∙ sym (all_of _ PAGE_OCTETS (all_at IsWholePage c.args.pages.now c.args.at c.index-pages-at.result
    c.requires.whole c.requires.at))
    ∙ sym (part_level page_octets IsWholePage PAGE_OCTETS page_has c.args.pages.now (c.args.at)
    (PAGE_OCTETS * c.args.at) (0) PAGE_OCTETS c.index-pages-at.result
    c.requires.whole (omega (arith, c.requires.at)) (omega arith) (omega arith))
