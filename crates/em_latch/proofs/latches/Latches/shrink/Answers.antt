use Rattle.std.proofs.Common.{◌≡◌, ◌∙◌, ap, sym, arith, length}
use Rattle.std.specs.FinMap as map
use Rattle.std.specs.Prelude.{slice_index}
use Rattle.em_latch.specs.declared.undo.TheConstants.{WORDS}
use Rattle.em_latch.specs.Latches.{shrunk}
use Rattle.em_latch.specs.Storage.{offsets}
use Rattle.em_latch.proofs.PlaceLaws.{at_place}
use Rattle.em_latch.proofs.latches.Latches.shrink.Goals as goal

pub returns : goal.returns
returns c =
    let words = c.self.inside.words in
    let size : length words ≡ WORDS = omega arith in
    c.swap.ensures.state
    ∙ ap (λ v. map.insert c.args.self.now (slice_index offsets c.args.place) (shrunk v c.args.by))
    (ap (slice_index words) c.from.ensures
    ∙ sym (at_place words c.args.self.now c.args.place c.requires size c.self.view_is))
