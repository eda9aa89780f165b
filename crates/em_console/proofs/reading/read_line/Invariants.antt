use Rattle.std.proofs.Common.{◌≤◌, vec_len}
use Rattle.em_console.specs.Reading.{most_kept}
use Rattle.em_console.proofs.ReadingLaws.{Kept}
use Rattle.em_console.proofs.reading.read_line.Given as goal

-- what was read so far is kept, and has no newline
abbrev pub invariant-loop-reads : goal.invariant-loop-reads
invariant-loop-reads g l =
    let remaining = g.R.Read.remaining in
    record {
      short : vec_len l.line ≤ most_kept;
      kept : Kept (remaining l.fn.reader) (remaining l.reader) l.line.items;
    }
