use Rattle.std.proofs.Common.{◌∙◌, ◌-◌, arith, drop, length, take}
use Rattle.em_tx.proofs.WireLaws.{bounds, end_read, frame_at}
use Rattle.em_tx.proofs.wire.Frames.at.Goals as goal

pub slice_bounds-result-count : goal.slice_bounds-result-count
slice_bounds-result-count c =
    let ends = c.args.self.now.ends.items in
    let end = end_read ends c.args.index c.index-end.result.now c.requires.within c.index-end.ensures in
    let of = bounds 0 ends (length c.args.self.now.octets.items) c.args.index c.requires.laid c.requires.within in
    omega (arith, c.start-start.ensures, end, of.0)

pub slice_bounds-result-end : goal.slice_bounds-result-end
slice_bounds-result-end c =
    let ends = c.args.self.now.ends.items in
    let end = end_read ends c.args.index c.index-end.result.now c.requires.within c.index-end.ensures in
    let of = bounds 0 ends (length c.args.self.now.octets.items) c.args.index c.requires.laid c.requires.within in
    omega (arith, end, of.1)

pub slice_bounds-result-start : goal.slice_bounds-result-start
slice_bounds-result-start c =
    let ends = c.args.self.now.ends.items in
    let end = end_read ends c.args.index c.index-end.result.now c.requires.within c.index-end.ensures in
    let of = bounds 0 ends (length c.args.self.now.octets.items) c.args.index c.requires.laid c.requires.within in
    omega (arith, c.start-start.ensures, end, of.0, of.1)

pub returns : goal.returns
returns c =
    let self = c.args.self.now in
    let end = end_read self.ends.items c.args.index c.index-end.result.now c.requires.within c.index-end.ensures in
    (λ i. take (end i - c.start-start.ensures i) (drop (c.start-start.ensures i) (c.deref.ensures.value i)))
    ∙ frame_at 0 self.ends.items self.octets.items c.args.index c.requires.within
