-- A line that was read: what it says, and its parts.
use Rattle.std.specs.Prelude.{◌≡◌, ℕ, List}
use Rattle.em_line.specs.Grammar.{parsed_line}
use Rattle.em_line.specs.Parts.{AreParts, said_in}
use Rattle.em_line.specs.Said.{plain}
use Rattle.em_line.specs.declared.line.Line.{Line}

-- it says what the line says without what stands behind that
pub record IsLine (text : List ℕ) (line : Line) : Type 0 where
  pub says : plain line.says ≡ parsed_line (said_in text)
  pub parts : AreParts text line.parts
