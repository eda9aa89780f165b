use Rattle.std.proofs.Common.{◌∙◌, ◌+◌, ◌*◌, ◌/◌, ◌%◌, ◌∷◌, [], true, false, None, ap, sym, refl, length, arith}
use Rattle.em_mem.specs.declared.TheConstants.{PAGE_OCTETS, PARTS, TABLE_OCTETS, DIRECTORY_OCTETS, DIRECTORY_PAGES}
use Rattle.em_mem.specs.Memory.{part}
use Rattle.em_mem.specs.Pages.{page_octets, page_made, IsWholePage}
use Rattle.em_mem.proofs.LevelLaws.{put_level, get_level, same_level}
use Rattle.em_mem.proofs.RowLaws.{page_has, page_marks}
use Rattle.em_mem.proofs.table.write_at.Goals as goal

pub write-requires-clause-made : goal.write-requires-clause-made
write-requires-clause-made c =
    sym (get_level page_made IsWholePage 1 page_marks c.args.pages.now (c.args.at) c.args.at
    (0) c.index-pages-at.result false
    c.requires.whole (omega (arith, c.requires.at)) (omega arith) (omega arith)) ∙ c.requires.made

pub returns-clause-octets : goal.returns-clause-octets
returns-clause-octets c =
    put_level page_octets IsWholePage PAGE_OCTETS page_has c.args.pages.now (c.args.at)
    (PAGE_OCTETS * c.args.at + c.args.from) c.args.from
    c.args.written.now c.write.new.page _ c.requires.whole (omega (arith, c.requires.at)) (omega arith)
    (omega (arith, c.requires.range)) c.write.ensures.octets

pub returns-clause-made : goal.returns-clause-made
returns-clause-made c =
    same_level page_made c.args.pages.now (c.args.at) c.write.new.page c.index-pages-at.result (ap (λ b. b ∷ [])
    (c.write.ensures.made ∙ sym (sym (get_level page_made IsWholePage 1 page_marks c.args.pages.now
    (c.args.at) c.args.at (0) c.index-pages-at.result false
    c.requires.whole (omega (arith, c.requires.at)) (omega arith) (omega arith)) ∙ c.requires.made)))
