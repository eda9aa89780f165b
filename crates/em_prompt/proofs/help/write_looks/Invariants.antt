use Rattle.std.proofs.Common.{take}
use Rattle.std.specs.List.{flat_map}
use Rattle.std.specs.Io.KnownBytes.{Appends}
use Rattle.em_prompt.specs.Help.{line_of_look}
use Rattle.em_prompt.proofs.help.write_looks.Given as goal

-- the lines so far
abbrev pub invariant-loop-look : goal.invariant-loop-look
invariant-loop-look g l =
    let contents = g.W.Write.contents in
    Appends (contents l.fn.writer) (contents l.writer) (flat_map line_of_look (take l.look-index l.looks))
