use Rattle.std.proofs.Common.{◌∙◌, Some, [], ap, arith, sym}
use Rattle.std.proofs.lemmas.Option.{slice_get-get_or, slice_get_past}
use Rattle.std.specs.Prelude.{slice_get}
use Rattle.em_tx.specs.Wire.{plain}
use Rattle.em_tx.proofs.WireLaws.{length-frames_from}
use Rattle.em_tx.proofs.wire.Wire.frame.Goals as goal

pub returns-then-index-len : goal.returns-then-index-len
returns-then-index-len c =
    let frames = c.self.inside.frames in
    let size = length-frames_from 0 frames.ends.items frames.octets.items in
    ap Some c.at.ensures
    ∙ sym (slice_get-get_or (plain frames) c.args.index [] (omega (arith, size, c.if-index-len.true)))
    ∙ ap (λ w. slice_get w c.args.index) c.self.view_is

pub returns-else-index-len : goal.returns-else-index-len
returns-else-index-len c =
    let frames = c.self.inside.frames in
    let size = length-frames_from 0 frames.ends.items frames.octets.items in
    sym (slice_get_past (plain frames) c.args.index (omega (arith, size, c.if-index-len.false)))
    ∙ ap (λ w. slice_get w c.args.index) c.self.view_is
