use Rattle.std.proofs.Common.{◌≡◌, ◌+◌, ◌≤◌, ◌++◌, ◌∷◌, [], ◌∙◌, ap, arith, length, length-append, subst, sym}
use Rattle.em_tx.specs.Wire.{AreEnds, frames_from}
use Rattle.em_tx.proofs.WireLaws.{more_ends, more_frames}
use Rattle.em_tx.proofs.wire.Frames.push.Goals as goal

pub returns-clause-frames : goal.returns-clause-frames
returns-clause-frames c =
    let old = c.args.self.now in
    let size : c.len.result ≡ length old.octets.items + length c.args.frame.now
    = omega (arith, ap length c.in-Ok.ensures.items, length-append old.octets.items c.args.frame.now) in
    let ends = c.push_reserved.ensures.items ∙ ap (λ e. old.ends.items ++ e ∷ []) size in
    (λ i. frames_from 0 (ends i) (c.in-Ok.ensures.items i))
    ∙ more_frames 0 old.ends.items old.octets.items c.args.frame.now c.requires.laid

pub returns-clause-laid : goal.returns-clause-laid
returns-clause-laid c =
    let old = c.args.self.now in
    let size : c.len.result ≡ length c.extend_from_slice.new.self.items = omega arith in
    let more : length old.octets.items ≤ c.len.result
    = omega (arith, ap length c.in-Ok.ensures.items, length-append old.octets.items c.args.frame.now) in
    let laid = more_ends 0 old.ends.items (length old.octets.items) c.len.result c.requires.laid more in
    subst (AreEnds 0 c.push_reserved.new.self.items) size
    (subst (λ e. AreEnds 0 e c.len.result) (sym c.push_reserved.ensures.items) laid)
