use Rattle.std.proofs.Common.{◌<◌, length, arith}
use Rattle.std.proofs.lemmas.List.{length-map}
use Rattle.em_turn.specs.Planned.{lists}
use Rattle.em_debugger.proofs.OffersLaws.{wrote_offered}
use Rattle.em_debugger.proofs.offers.write_script.Goals as goal

pub loop-index-preserved : goal.loop-index-preserved
loop-index-preserved g c =
    let lines = lists c.args.lines.now.items in
    let within : c.loop-index.index < length lines =
    omega (arith, length-map c.args.lines.now.items (λ v. v.items), c.len-index-end.ensures) in
    wrote_offered c.args.has_engines lines c.loop-index.index _ _ _ within c.loop-index.invariant
    (rw c.line_of.ensures at c.in_ok-write_offered_line.ensures.writes)
