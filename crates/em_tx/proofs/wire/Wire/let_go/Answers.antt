use Rattle.std.proofs.Common.{ap, arith, length}
use Rattle.em_tx.proofs.WireLaws.{length-frames_from}
use Rattle.em_tx.proofs.wire.Wire.let_go.Goals as goal

pub let_go-requires-clause-within : goal.let_go-requires-clause-within
let_go-requires-clause-within c =
    let frames = c.self.inside.frames in
    omega (arith, c.requires, ap length c.self.view_is, length-frames_from 0 frames.ends.items frames.octets.items)
