use Rattle.std.proofs.Common.{◌∙◌, ◌+◌, ◌-◌, ◌*◌, ◌/◌, ◌%◌, ◌∷◌, [], true, false, None, ap, sym, refl, length, arith}
use Rattle.em_mem.specs.declared.TheConstants.{PAGE_OCTETS, PARTS, TABLE_OCTETS, DIRECTORY_OCTETS, DIRECTORY_PAGES}
use Rattle.em_mem.specs.Memory.{part}
use Rattle.em_mem.specs.Pages.{directory_octets, directory_made, IsWholeDirectory}
use Rattle.em_mem.proofs.LevelLaws.{put_level, get_level, same_level}
use Rattle.em_mem.proofs.RowLaws.{directory_marks, on_ok, on_err}
use Rattle.em_mem.proofs.levels.make_at.Goals as goal

pub returns-clause-octets : goal.returns-clause-octets
returns-clause-octets c =
    same_level directory_octets c.args.directories.now
    ((c.args.page - c.args.count) / DIRECTORY_PAGES) c.make.new.directory _ c.make.ensures.octets

pub returns-clause-made : goal.returns-clause-made
returns-clause-made c =
    on_ok c.make.result
    (put_level directory_made IsWholeDirectory DIRECTORY_PAGES directory_marks c.args.directories.now
    ((c.args.page - c.args.count) / DIRECTORY_PAGES) (c.args.page - c.args.count) ((c.args.page - c.args.count) % DIRECTORY_PAGES) (true ∷ []) c.make.new.directory _
    c.requires.whole (omega (arith, c.requires.at)) (omega arith) (omega arith)) c.make.ensures.made

pub returns-clause-same : goal.returns-clause-same
returns-clause-same c =
    on_err c.make.result (same_level directory_made c.args.directories.now
    ((c.args.page - c.args.count) / DIRECTORY_PAGES) c.make.new.directory _) c.make.ensures.same

pub returns-clause-ready : goal.returns-clause-ready
returns-clause-ready c =
    λ is. c.make.ensures.ready (sym (get_level directory_made IsWholeDirectory DIRECTORY_PAGES directory_marks
    c.args.directories.now ((c.args.page - c.args.count) / DIRECTORY_PAGES) (c.args.page - c.args.count) ((c.args.page - c.args.count) % DIRECTORY_PAGES) _ false
    c.requires.whole (omega (arith, c.requires.at)) (omega arith) (omega arith)) ∙ is)
