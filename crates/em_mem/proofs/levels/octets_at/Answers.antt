use Rattle.std.proofs.Common.{◌∙◌, ◌+◌, ◌-◌, ◌*◌, ◌/◌, ◌%◌, ◌∷◌, [], true, false, None, ap, sym, refl, length, arith}
use Rattle.em_mem.specs.declared.TheConstants.{PAGE_OCTETS, PARTS, TABLE_OCTETS, DIRECTORY_OCTETS, DIRECTORY_PAGES}
use Rattle.em_mem.specs.Memory.{part}
use Rattle.em_mem.specs.Pages.{directory_octets, directory_made, IsWholeDirectory}
use Rattle.em_mem.proofs.LevelLaws.{part_level, all_at}
use Rattle.em_mem.proofs.RowLaws.{directory_has, all_of}
use Rattle.em_mem.proofs.levels.octets_at.Goals as goal

pub returns : goal.returns
returns c =
    c.octets.ensures ∙ ap (λ t. part (directory_octets t) (PAGE_OCTETS *
    ((c.args.page - c.args.count) % DIRECTORY_PAGES)) PAGE_OCTETS) c.index-directories-at.is
    ∙ sym (part_level directory_octets IsWholeDirectory DIRECTORY_OCTETS directory_has c.args.directories.now
    ((c.args.page - c.args.count) / DIRECTORY_PAGES) (PAGE_OCTETS * (c.args.page - c.args.count)) (PAGE_OCTETS *
    ((c.args.page - c.args.count) % DIRECTORY_PAGES)) PAGE_OCTETS c.index-directories-at.result
    c.requires.whole (omega (arith, c.requires.at)) (omega arith) (omega arith))
