use Rattle.std.proofs.Common.{◌≡◌, ◌∙◌, ap, sym, arith, get_or, length}
use Rattle.em_regs.specs.RegFile.{at}
use Rattle.em_latch.specs.declared.undo.TheConstants.{WORDS}
use Rattle.em_latch.proofs.PlaceLaws.{at_place}
use Rattle.em_latch.proofs.latches.Latches.word.Goals as goal

pub returns : goal.returns
returns c =
    let words = c.self.inside.words in
    let size : length words ≡ WORDS = omega arith in
    ap (λ i. get_or words i 0) c.from.ensures
    ∙ sym (ap (at c.args.self.now) (sym c.place_of.ensures.place)
    ∙ at_place words c.args.self.now c.place_of.result c.place_of.ensures.within size c.self.view_is)
