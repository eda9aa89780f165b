use Rattle.std.proofs.Common.{◌≡◌, length, rules}
use Rattle.std.proofs.lemmas.Result.{MatchResult-from_err}
use Rattle.em_json.proofs.JoinedLaws.{joined_all, joined_none, joined_part}
use Rattle.em_json.proofs.strings.write_joined.Goals as goal

pub returns-then-is_empty : goal.returns-then-is_empty
returns-then-is_empty g c =
    let none : length c.args.text.now ≡ 0 = search rules in
    record { writes = joined_none _ c.args.text.now none }

pub returns-in_err-write_string : goal.returns-in_err-write_string
returns-in_err-write_string g c = record {
  writes = MatchResult-from_err _ _ _ c.from_residual.ensures.0 (λ _.
      joined_part _ _ c.args.text.now c.next_line.result.0.now c.next_line.result.1.now c.next_line.ensures.lines
      c.in_err-write_string.ensures.writes);
}

pub returns : goal.returns
returns g c = record {
  writes = joined_all _ _ _ c.write_joined_behind.result c.args.text.now c.next_line.result.0.now
      c.next_line.result.1.now c.next_line.ensures.lines c.in_ok-write_string.ensures.writes
      c.write_joined_behind.ensures.writes;
}
