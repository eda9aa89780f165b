use Rattle.std.proofs.Common.{◌≡◌, length, rules}
use Rattle.std.proofs.lemmas.Result.{MatchResult-from_err}
use Rattle.em_json.proofs.JoinedLaws.{WroteJoined-all, WroteJoined-more, WroteJoined-part}
use Rattle.em_json.proofs.strings.write_joined_behind.Goals as goal

pub loop-rest-preserved : goal.loop-rest-preserved
loop-rest-preserved g c =
    WroteJoined-more _ _ _ c.args.text.now c.loop-rest.rest.now c.next_line.result.0.now c.next_line.result.1.now
    c.loop-rest.invariant c.next_line.ensures.lines c.in_ok-write_next.ensures.writes

pub returns-in_err-write_next : goal.returns-in_err-write_next
returns-in_err-write_next g c = record {
  writes = MatchResult-from_err _ _ _ c.from_residual.ensures.0 (λ _.
      WroteJoined-part _ _ _ c.args.text.now c.loop-rest.rest.now c.next_line.result.0.now c.next_line.result.1.now
      c.loop-rest.invariant c.next_line.ensures.lines c.in_err-write_next.ensures.writes);
}

pub returns : goal.returns
returns g c =
    let none : length c.loop-rest.rest.now ≡ 0 = search rules in
    record { writes = WroteJoined-all _ _ c.args.text.now c.loop-rest.rest.now c.loop-rest.invariant none }
