use Rattle.std.proofs.Common.{◌+◌, refl}
use Rattle.std.proofs.lemmas.Result.{MatchResult-from_err}
use Rattle.em_text.proofs.WritingLemmas.{Writes-more, WroteFront-more, WroteFront-none, WroteFront-part}
use Rattle.em_debugger.specs.Place.{line_here}
use Rattle.em_debugger.specs.Warned.{all_text, count_warned, end_text, places_text}
use Rattle.em_debugger.proofs.debugger.Debugger.write_all.Goals as goal

pub returns-in_err-write_places : goal.returns-in_err-write_places
returns-in_err-write_places g c =
    let d = c.args.self.now in
    let rule = c.args.rule in
    let wrote-0 = WroteFront-none (g.W.Write.contents c.args.writer.now) (all_text d rule) in
    record {
      writes = MatchResult-from_err _ _ _ c.from_residual.ensures.0 (λ _.
          WroteFront-part (end_text rule (count_warned d rule 1 (line_here d.tape + 1))) wrote-0 refl (rw c.behind_here-end.ensures.line at c.in_err-write_places.ensures.writes));
    }

pub returns : goal.returns
returns g c =
    let d = c.args.self.now in
    let rule = c.args.rule in
    let wrote-0 = WroteFront-none (g.W.Write.contents c.args.writer.now) (all_text d rule) in
    let wrote-1 = WroteFront-more (places_text d rule (line_here d.tape + 1)) wrote-0 refl (rw c.behind_here-end.ensures.line at c.in_ok-write_places.ensures.writes) in
    record {
      writes = Writes-more _ _ _ _ wrote-1.front (end_text rule (count_warned d rule 1 (line_here d.tape + 1))) _ wrote-1.written (rw (c.count_warned.ensures, c.behind_here-end.ensures.line) at c.write_end.ensures.writes) wrote-1.whole;
    }
