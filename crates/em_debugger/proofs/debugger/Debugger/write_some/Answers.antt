use Rattle.std.proofs.Common.{codes, refl}
use Rattle.std.proofs.lemmas.Result.{MatchResult-from_err}
use Rattle.em_text.proofs.WritingLemmas.{Writes-more, WroteFront-more, WroteFront-none, WroteFront-part}
use Rattle.em_warnings.specs.Said.{all_rules}
use Rattle.em_debugger.specs.Marks.{line_number_text, marks_of}
use Rattle.em_debugger.specs.Warned.{some_text, tally, tally_text}
use Rattle.em_debugger.proofs.debugger.Debugger.write_some.Goals as goal

pub returns-in_err-write_tally : goal.returns-in_err-write_tally
returns-in_err-write_tally g c =
    let d = c.args.self.now in
    let first = c.args.first in
    let wrote-0 = WroteFront-none (g.W.Write.contents c.args.writer.now) (some_text d first c.args.end) in
    record {
      writes = MatchResult-from_err _ _ _ c.from_residual.ensures.0 (λ _.
          WroteFront-part (line_number_text (marks_of d) (codes "at line ") first (codes "\n")) wrote-0 refl (rw c.tally.ensures at c.in_err-write_tally.ensures.writes));
    }

pub returns : goal.returns
returns g c =
    let d = c.args.self.now in
    let first = c.args.first in
    let wrote-0 = WroteFront-none (g.W.Write.contents c.args.writer.now) (some_text d first c.args.end) in
    let wrote-1 = WroteFront-more (tally_text (tally d first c.args.end all_rules)) wrote-0 refl (rw c.tally.ensures at c.in_ok-write_tally.ensures.writes) in
    record {
      writes = Writes-more _ _ _ _ wrote-1.front (line_number_text (marks_of d) (codes "at line ") first (codes "\n")) _ wrote-1.written c.write_line_number.ensures.writes wrote-1.whole;
    }
