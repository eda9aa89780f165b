use Rattle.std.proofs.Common.{◌≡◌, length, rules}
use Rattle.em_debugger.proofs.ListingLaws.{listed-all, listed-none}
use Rattle.em_debugger.proofs.listing.write_listed.Goals as goal

pub returns-then-is_empty : goal.returns-then-is_empty
returns-then-is_empty g c =
    let none : length c.args.answer.now ≡ 0 = search rules in
    record {
      ok = listed-none _ _ _ c.write_whole.result c.args.number c.args.line.now c.args.answer.now none
          c.in_ok-write_numbered.ensures.writes c.write_whole.ensures.writes;
    }

pub returns : goal.returns
returns g c = record {
  ok = listed-all _ _ _ c.write_all_below.result c.args.number c.args.line.now c.next_line.result.0.now
      c.next_line.result.1.now c.args.answer.now c.next_line.ensures.lines c.in_ok-write_beside.ensures.writes
      c.write_all_below.ensures.ok;
}
