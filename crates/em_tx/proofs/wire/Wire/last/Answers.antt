use Rattle.std.proofs.Common.{◌≡◌, ◌∙◌, ◌-◌, [], ap, arith, get_or, length}
use Rattle.em_tx.specs.Undo.{last_of}
use Rattle.em_tx.specs.Wire.{plain}
use Rattle.em_tx.proofs.WireLaws.{length-frames_from}
use Rattle.em_tx.proofs.wire.Wire.last.Goals as goal

pub returns : goal.returns
returns c =
    let frames = c.self.inside.frames in
    let count : c.len.result - 1 ≡ length (plain frames) - 1
    = omega (arith, length-frames_from 0 frames.ends.items frames.octets.items) in
    c.at.ensures ∙ ap (λ n. get_or (plain frames) n []) count ∙ ap last_of c.self.view_is
