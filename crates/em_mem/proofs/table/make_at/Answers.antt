use Rattle.std.proofs.Common.{◌∙◌, ◌+◌, ◌*◌, ◌/◌, ◌%◌, ◌∷◌, [], true, false, None, ap, sym, refl, length, arith}
use Rattle.em_mem.specs.declared.TheConstants.{PAGE_OCTETS, PARTS, TABLE_OCTETS, DIRECTORY_OCTETS, DIRECTORY_PAGES}
use Rattle.em_mem.specs.Memory.{part}
use Rattle.em_mem.specs.Pages.{page_octets, page_made, IsWholePage}
use Rattle.em_mem.proofs.LevelLaws.{put_level, get_level, same_level}
use Rattle.em_mem.proofs.RowLaws.{page_marks, on_ok, on_err}
use Rattle.em_mem.proofs.table.make_at.Goals as goal

pub returns-clause-octets : goal.returns-clause-octets
returns-clause-octets c = same_level page_octets c.args.pages.now (c.args.at) c.make.new.page _ c.make.ensures.octets

pub returns-clause-made : goal.returns-clause-made
returns-clause-made c =
    on_ok c.make.result
    (put_level page_made IsWholePage 1 page_marks c.args.pages.now (c.args.at) c.args.at (0)
    (true ∷ []) c.make.new.page c.index-pages-at.result
    c.requires.whole (omega (arith, c.requires.at)) (omega arith) (omega arith)) c.make.ensures.made

pub returns-clause-ready : goal.returns-clause-ready
returns-clause-ready c =
    λ is. c.make.ensures.ready (sym (get_level page_made IsWholePage 1 page_marks c.args.pages.now
    (c.args.at) c.args.at (0) c.index-pages-at.result false
    c.requires.whole (omega (arith, c.requires.at)) (omega arith) (omega arith)) ∙ is)
