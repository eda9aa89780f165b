use Rattle.std.proofs.Common.{ap, arith, length}
use Rattle.em_tx.proofs.WireLaws.{length-frames_from}
use Rattle.em_tx.proofs.wire.Wire.len.Goals as goal

pub returns : goal.returns
returns c =
    let frames = c.self.inside.frames in
    omega (arith, length-frames_from 0 frames.ends.items frames.octets.items, ap length c.self.view_is)
