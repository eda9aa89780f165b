-- Looks at a machine that a line of one word asks for.
use Rattle.std.specs.Prelude.{ℕ, List, [], ◌∷◌, codes, Option, find}
use Rattle.std.specs.Str.{bytes_eq}
use Rattle.em_line.specs.declared.look.Look.{Look}
use Rattle.em_line.specs.declared.look.Look.TheVariants as look

-- the word that asks for a look, and what it shows, in a line of a help
abbrev pub row_of : Look → List ℕ × List ℕ
row_of look.InterruptLine = (codes "line", codes "line: shows the interrupt line")
row_of look.Registers = (codes "regs", codes "regs: shows every register that is not zero")
row_of look.Wire = (codes "wire", codes "wire: shows the frames that were sent")

-- all of them, as a help shows them
abbrev pub looks : List Look
looks = look.InterruptLine ∷ look.Registers ∷ look.Wire ∷ []

abbrev pub name_of : Look → List ℕ
name_of look = (row_of look).0

abbrev pub help_of : Look → List ℕ
help_of look = (row_of look).1

-- the look that a word asks for, if it asks for one
abbrev pub look_called : List ℕ → Option Look
look_called word = find (λ look. bytes_eq word (name_of look)) looks
