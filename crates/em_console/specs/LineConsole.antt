-- A console over a reader and a writer, and what each turn does to both.
use Rattle.std.specs.Prelude.{◌≡◌, ℕ, List, [], Option}
use Rattle.std.specs.Io.{StartsWith}
use Rattle.std.specs.Io.KnownBytes.{Appends, IsAtEnd, Keeps}
use Rattle.std.specs.Io.Buffered.{writer_buffer, writer_contents}
use Rattle.std.specs.declared.io.buffered.BufWriter.{BufWriter}
use Rattle.std.specs.Global.{Global}
use Rattle.em_console.specs.declared.lines.LineConsole.{LineConsole}
use Rattle.em_console.specs.Reading.{TakesLine}
use Rattle.em_console.specs.Turns.{Turn, Typed, Over, Failed, Told, Cut}

-- what a console was made of
abbrev pub reader_of : {R W : Type 0} → LineConsole R W → R
reader_of console = console.reader

abbrev pub writer_of : {R W : Type 0} → LineConsole R W → BufWriter W Global
writer_of console = console.writer

abbrev pub prompt_of : {R W : Type 0} → LineConsole R W → List ℕ
prompt_of console = console.prompt.now

-- What a turn does: the reader had the octets `given` and has `rest`, the writer held `old` and holds `new`, of which
-- `waiting` is not out yet. A line is asked for with a prompt.
abbrev pub Does : List ℕ → Option (List ℕ) → Option (List ℕ) → Option (List ℕ) → Option (List ℕ) → List ℕ → Turn
    → Type 0
Does prompt given rest old new waiting (Typed line) =
    TakesLine given rest line × Appends old new prompt × (waiting ≡ [])
Does prompt given rest old new waiting Over =
    IsAtEnd given × Keeps given rest × Appends old new prompt × (waiting ≡ [])
Does prompt given rest old new waiting Failed = (part : List ℕ) × StartsWith prompt part × Appends old new part
Does prompt given rest old new waiting (Told text) = Keeps given rest × Appends old new text × (waiting ≡ [])
Does prompt given rest old new waiting (Cut part) = Keeps given rest × Appends old new part

-- this turn passed at a console over a reader and a writer
pub record LinePasses {R W : Type 0} (remaining : R → Option (List ℕ)) (contents : W → Option (List ℕ))
    (before : LineConsole R W) (turn : Turn) (after : LineConsole R W) : Type 0 where
  pub prompt : prompt_of after ≡ prompt_of before
  pub does : Does (prompt_of before) (remaining (reader_of before)) (remaining (reader_of after))
      (writer_contents contents (writer_of before)) (writer_contents contents (writer_of after))
      (writer_buffer (writer_of after)) turn
