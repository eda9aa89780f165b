use Rattle.std.proofs.Common.{◌≡◌, ◌+◌, ◌-◌, length, min, refl}
use Rattle.std.specs.List.{flat_map, range_with_len}
use Rattle.std.proofs.lemmas.Result.{MatchResult-from_err}
use Rattle.em_text.proofs.WritingLemmas.{WroteFront-none, WroteFront-part, Writes-more}
use Rattle.em_debugger.specs.Excerpt.{between_text, numbered_line_text, start_before}
use Rattle.em_debugger.specs.Place.{line_here}
use Rattle.em_debugger.proofs.ExcerptLaws.{up_to}
use Rattle.em_debugger.proofs.debugger.Debugger.write_between.Goals as goal

pub returns-in_err-write_start_before : goal.returns-in_err-write_start_before
returns-in_err-write_start_before g c =
    let d = c.args.self.now in
    let here = line_here d.tape in
    let count = min c.args.last (length d.tape.lines) + 1 - c.args.first in
    let wrote-0 = WroteFront-none (g.W.Write.contents c.args.writer.now) (between_text d here c.args.first c.args.last) in
    record {
      writes = MatchResult-from_err _ _ _ c.from_residual.ensures.0 (λ _.
          WroteFront-part (flat_map (numbered_line_text d here) (range_with_len c.args.first count)) wrote-0 refl
          (rw c.line_here-here.ensures.line at c.in_err-write_start_before.ensures.writes));
    }

pub returns : goal.returns
returns g c =
    let d = c.args.self.now in
    let here = line_here d.tape in
    let count = min c.args.last (length d.tape.lines) + 1 - c.args.first in
    let is : c.max.result - c.args.first ≡ count =
    up_to c.min-end.result c.args.last c.len.result (length d.tape.lines) c.args.first c.max.result c.len.ensures.len
    c.min-end.ensures c.max.ensures in
    record {
      writes = Writes-more _ _ _ _ (start_before c.args.first here)
          (flat_map (numbered_line_text d here) (range_with_len c.args.first count)) _
          (rw c.line_here-here.ensures.line at c.in_ok-write_start_before.ensures.writes)
          (rw is at (rw c.line_here-here.ensures.line at c.write_numbered_lines.ensures.writes)) refl;
    }
