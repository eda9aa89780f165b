use Rattle.std.proofs.Common.{◌∙◌, ◌+◌, ◌-◌, ◌*◌, ◌/◌, ◌%◌, ◌∷◌, [], true, false, None, ap, sym, refl, length, arith}
use Rattle.em_mem.specs.declared.TheConstants.{PAGE_OCTETS, PARTS, TABLE_OCTETS, DIRECTORY_OCTETS, DIRECTORY_PAGES}
use Rattle.em_mem.specs.Memory.{part}
use Rattle.em_mem.specs.Pages.{directory_octets, directory_made, IsWholeDirectory}
use Rattle.em_mem.proofs.LevelLaws.{put_level, get_level, same_level}
use Rattle.em_mem.proofs.RowLaws.{directory_has, directory_marks}
use Rattle.em_mem.proofs.levels.write_at.Goals as goal

pub write-requires-clause-made : goal.write-requires-clause-made
write-requires-clause-made c =
    sym (get_level directory_made IsWholeDirectory DIRECTORY_PAGES directory_marks c.args.directories.now
    ((c.args.page - c.args.count) / DIRECTORY_PAGES) (c.args.page - c.args.count) ((c.args.page - c.args.count) % DIRECTORY_PAGES) _ false
    c.requires.whole (omega (arith, c.requires.at)) (omega arith) (omega arith)) ∙ c.requires.made

pub returns-clause-octets : goal.returns-clause-octets
returns-clause-octets c =
    put_level directory_octets IsWholeDirectory DIRECTORY_OCTETS directory_has c.args.directories.now
    ((c.args.page - c.args.count) / DIRECTORY_PAGES) (PAGE_OCTETS * (c.args.page - c.args.count) + c.args.from) (PAGE_OCTETS *
    ((c.args.page - c.args.count) % DIRECTORY_PAGES) + c.args.from)
    c.args.written.now c.write.new.directory _ c.requires.whole (omega (arith, c.requires.at)) (omega arith)
    (omega (arith, c.requires.range)) c.write.ensures.octets

pub returns-clause-made : goal.returns-clause-made
returns-clause-made c =
    same_level directory_made c.args.directories.now
    ((c.args.page - c.args.count) / DIRECTORY_PAGES) c.write.new.directory _ c.write.ensures.made
