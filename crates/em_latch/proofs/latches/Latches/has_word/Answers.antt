use Rattle.std.proofs.Common.{◌≡◌, arith, length}
use Rattle.em_latch.specs.declared.undo.TheConstants.{WORDS}
use Rattle.em_latch.proofs.PlaceLaws.{has_place}
use Rattle.em_latch.proofs.latches.Latches.has_word.Goals as goal

pub returns-clause-there : goal.returns-clause-there
returns-clause-there c =
    let words = c.self.inside.words in
    let size : length words ≡ WORDS = omega arith in
    has_place words c.args.self.now c.args.reg c.requires size c.self.view_is
