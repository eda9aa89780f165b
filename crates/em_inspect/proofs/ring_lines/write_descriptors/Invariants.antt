use Rattle.std.proofs.Common.{◌+◌}
use Rattle.std.specs.List.{flat_map, range_with_len}
use Rattle.std.specs.Io.KnownBytes.{Appends}
use Rattle.em_inspect.specs.RingText.{line_of_index}
use Rattle.em_inspect.proofs.ring_lines.write_descriptors.Given as goal

-- the lines so far
abbrev pub invariant-loop-k : goal.invariant-loop-k
invariant-loop-k g l =
    let contents = g.W.Write.contents in
    Appends (contents l.fn.writer) (contents l.writer)
    (flat_map (λ k. line_of_index l.ring l.machine.present.base l.machine.present.memory (l.from + k))
    (range_with_len 0 l.k))
