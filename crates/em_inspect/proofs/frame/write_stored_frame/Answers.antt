use Rattle.std.proofs.lemmas.Result.{MatchResult-from_err}
use Rattle.std.proofs.Common.{refl, ◌++◌}
use Rattle.em_text.proofs.WritingLemmas.{Writes-more, WritesPart-front}
use Rattle.em_inspect.specs.Frame.{stored_line}
use Rattle.em_inspect.specs.Lines.{lines_text}
use Rattle.em_inspect.proofs.frame.write_stored_frame.Goals as goal

pub returns-in_err-write_heading : goal.returns-in_err-write_heading
returns-in_err-write_heading g c = record {
  writes = MatchResult-from_err _ _ _ c.from_residual.ensures.0 (λ _.
      WritesPart-front (lines_text 0 (c.args.frame.now.front.now ++ c.args.frame.now.back.now))
      c.in_err-write_heading.ensures.writes refl);
}

pub returns : goal.returns
returns g c =
    let octets = c.args.frame.now.front.now ++ c.args.frame.now.back.now in
    record {
      writes = Writes-more _ _ _ _ (stored_line octets c.args.frame.now.tag) (lines_text 0 octets) _
          c.in_ok-write_heading.ensures.writes c.write_lines_in_two.ensures.writes refl;
    }
