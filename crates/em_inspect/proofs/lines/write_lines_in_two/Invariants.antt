use Rattle.std.proofs.Common.{◌++◌}
use Rattle.std.specs.List.{flat_map, range_with_len}
use Rattle.std.specs.Io.KnownBytes.{Appends}
use Rattle.em_inspect.specs.Lines.{line_at}
use Rattle.em_inspect.proofs.lines.write_lines_in_two.Given as goal

-- the lines so far
abbrev pub invariant-loop-line : goal.invariant-loop-line
invariant-loop-line g l =
    let contents = g.W.Write.contents in
    Appends (contents l.fn.writer) (contents l.writer)
    (flat_map (line_at l.address (l.front ++ l.back)) (range_with_len 0 l.line))
