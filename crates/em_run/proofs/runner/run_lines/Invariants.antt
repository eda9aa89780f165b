use Rattle.std.proofs.Common.{◌+◌, ◌≤◌, length}
use Rattle.em_text.specs.Lines.{lines_of}
use Rattle.em_run.proofs.RunLemmas.{Ran}
use Rattle.em_run.proofs.runner.run_lines.Given as goal

-- the lines before the rest were played
abbrev pub invariant-loop-rest : goal.invariant-loop-rest
invariant-loop-rest g l =
    let contents = g.W.Write.contents in
    record {
      ran : Ran (lines_of l.script) (lines_of l.rest) l.fn.session l.session (contents l.fn.writer)
          (contents l.writer) l.number l.summary;
      bad : l.summary.bad ≤ l.summary.lines;
      refused : l.summary.refused ≤ l.summary.lines;
      few : l.summary.lines + 1 ≤ l.number;
      room : l.number + length l.rest ≤ length l.script + 1;
    }

abbrev pub decreases-loop-rest : goal.decreases-loop-rest
decreases-loop-rest g l = length l.rest
