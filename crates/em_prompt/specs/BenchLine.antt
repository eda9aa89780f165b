-- A line of em_bench's, and its text as it is kept.
use Rattle.std.specs.Prelude.{ℕ, List, ◌++◌}
use Rattle.em_prompt.specs.declared.command.Command.{Command}
use Rattle.em_prompt.specs.declared.bench_line.BenchLine.{BenchLine as Lent}
use Rattle.em_prompt.specs.Command.{name_of}
use Rattle.em_prompt.specs.Kept.{behind_text}

pub record BenchLine : Type 0 where
  pub command : Command
  -- what stands behind the name, as em_bench reads it
  pub behind : List ℕ

-- a line of the code without where its words lie in memory
abbrev pub plain : Lent → BenchLine
plain line = record { command = line.command; behind = behind_text line.words }

-- the text of a line
abbrev pub text_of : BenchLine → List ℕ
text_of line = name_of line.command ++ line.behind
