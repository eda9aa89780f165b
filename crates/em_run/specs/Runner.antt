-- What a whole script prints, counts and leaves.
use Rattle.std.specs.Prelude.{◌≡◌, ℕ, ◌+◌, ◌<◌, ◌≤◌, List, ◌∷◌, ◌++◌, length, take, Option, IsTrue}
use Rattle.std.specs.Io.KnownBytes.{Appends, Consumes, IsAtEnd}
use Rattle.em_journal.specs.History.{Run}
use Rattle.em_text.specs.Lines.{lines_of}
use Rattle.em_text.specs.Reader.{most_script}
use Rattle.em_line.specs.ParsedLine.{brings_octets}
use Rattle.em_line.specs.Grammar.{parsed_line}
use Rattle.em_script.specs.declared.fault.BenchFault.{BenchFault}
use Rattle.em_script.specs.declared.fault.BenchFault.TheVariants.{Write, Memory}
use Rattle.em_script.specs.Session.{Session}
use Rattle.em_script.specs.PlayedLine.{PlayedLine, played_text, after_played, IsAllowed, text_from, after_all, outcomes}
use Rattle.em_script.specs.PlayedLine.{ArePlayed, calls}
use Rattle.em_script.specs.ScriptText.{IsFold}
use Rattle.em_run.specs.declared.summary.Summary.{Summary}
use Rattle.em_run.specs.Summary.{counts}

-- the reader gave this script, which is not too large, and came to its end
abbrev pub ReadsWhole : Option (List ℕ) → Option (List ℕ) → List ℕ → Type 0
ReadsWhole old new script = Consumes old new script × IsAtEnd new × (length script ≤ most_script)

-- the script was played: its text was written, its lines were counted, and its commands' calls were made
pub record Answers (script : List ℕ) (first now : Session) (old new : Option (List ℕ)) (summary : Summary)
    : Type 0 where
  pub all : List PlayedLine
  pub played : ArePlayed all (lines_of script) first
  pub written : Appends old new (text_from 1 all first)
  pub session : now ≡ after_all all first
  pub count : summary ≡ counts (outcomes all first)
  pub run : Run first.machine (calls all first) now.machine
  pub fold : IsFold all first now

-- the text of one line was written in part: that of the lines before it is written, and what the line did stands
pub record FailsInLine (script : List ℕ) (first now : Session) (old new : Option (List ℕ)) : Type 0 where
  pub before : List PlayedLine
  pub failed : PlayedLine
  pub done : List (List ℕ)
  pub behind : List (List ℕ)
  pub lines : lines_of script ≡ done ++ failed.line ∷ behind
  pub played : ArePlayed before done first
  pub allowed : IsAllowed failed (after_all before first)
  pub session : now ≡ after_played failed (after_all before first)
  pub octets : ℕ
  pub part : octets < length (played_text (length before + 1) failed (after_all before first))
  pub written : Appends old new (text_from 1 before first
      ++ take octets (played_text (length before + 1) failed (after_all before first)))

-- the memory for a line's octets was refused: the lines before it are played and their text is written, and no more
pub record StopsBeforeLine (script : List ℕ) (first now : Session) (old new : Option (List ℕ)) : Type 0 where
  pub before : List PlayedLine
  pub line : List ℕ
  pub done : List (List ℕ)
  pub behind : List (List ℕ)
  pub lines : lines_of script ≡ done ++ line ∷ behind
  pub octets : IsTrue (brings_octets (parsed_line line))
  pub played : ArePlayed before done first
  pub session : now ≡ after_all before first
  pub written : Appends old new (text_from 1 before first)

-- what a fault between the lines of a script leaves
abbrev pub StopsInScript : List ℕ → Session → Session → Option (List ℕ) → Option (List ℕ) → BenchFault → Type 0
StopsInScript script first now old new Memory = StopsBeforeLine script first now old new
StopsInScript script first now old new Write = FailsInLine script first now old new
StopsInScript script first now old new _ = ⊥
