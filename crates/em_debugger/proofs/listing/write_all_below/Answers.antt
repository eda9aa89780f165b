use Rattle.std.proofs.Common.{◌≡◌, length, rules}
use Rattle.em_debugger.proofs.ListingLaws.{WroteBelow-all, WroteBelow-more}
use Rattle.em_debugger.proofs.listing.write_all_below.Goals as goal

pub loop-rest-preserved : goal.loop-rest-preserved
loop-rest-preserved g c =
    WroteBelow-more _ _ _ c.args.answer.now c.loop-rest.rest.now c.next_line.result.0.now c.next_line.result.1.now
    c.loop-rest.invariant c.next_line.ensures.lines c.in_ok-write_pieces.ensures.writes

pub returns : goal.returns
returns g c =
    let none : length c.loop-rest.rest.now ≡ 0 = search rules in
    record { ok = WroteBelow-all _ _ c.args.answer.now c.loop-rest.rest.now c.loop-rest.invariant none }
