use Rattle.std.proofs.Common.{take}
use Rattle.std.specs.List.{flat_map}
use Rattle.std.specs.Io.KnownBytes.{Appends}
use Rattle.em_prompt.specs.Help.{line_of}
use Rattle.em_prompt.proofs.help.write_lines.Given as goal

-- the lines so far
abbrev pub invariant-loop-command : goal.invariant-loop-command
invariant-loop-command g l =
    let contents = g.W.Write.contents in
    Appends (contents l.fn.writer) (contents l.writer) (flat_map line_of (take l.command-index l.commands))
