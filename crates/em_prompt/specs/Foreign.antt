-- Words of gdb's that are no commands here, and what does here what they do there.
use Rattle.std.specs.Prelude.{ℕ, List, [], ◌∷◌, codes, Option, find}
use Rattle.std.specs.Str.{bytes_eq}
use Rattle.em_prompt.specs.declared.foreign.Foreign.{Foreign}
use Rattle.em_prompt.specs.declared.foreign.Foreign.TheVariants as foreign

-- the word, and what is typed here
abbrev pub row_of : Foreign → List ℕ × List ℕ
row_of foreign.Break = (codes "break", codes "run until LINE")
row_of foreign.B = (codes "b", codes "run until LINE")
row_of foreign.Continue = (codes "continue", codes "run")
row_of foreign.C = (codes "c", codes "run")
row_of foreign.Step = (codes "step", codes "next, forward")
row_of foreign.S = (codes "s", codes "next, forward")
row_of foreign.Stepi = (codes "stepi", codes "forward")
row_of foreign.Si = (codes "si", codes "forward")
row_of foreign.Finish = (codes "finish", codes "next")
row_of foreign.Until = (codes "until", codes "run until LINE")
row_of foreign.ReverseStep = (codes "reverse-step", codes "back")
row_of foreign.ReverseNext = (codes "reverse-next", codes "back")
row_of foreign.ReverseStepi = (codes "reverse-stepi", codes "back")
row_of foreign.ReverseContinue = (codes "reverse-continue", codes "goto 0")
row_of foreign.Watch = (codes "watch", codes "run until WATCH changes")
row_of foreign.Awatch = (codes "awatch", codes "accesses NAME|ADDR")
row_of foreign.Print = (codes "print", codes "look NAME")
row_of foreign.P = (codes "p", codes "look NAME")
row_of foreign.X = (codes "x", codes "memory ADDR LEN")
row_of foreign.Info = (codes "info", codes "regs, ring rx|tx, frame, line")
row_of foreign.I = (codes "i", codes "regs, ring rx|tx, frame, line")
row_of foreign.Backtrace = (codes "backtrace", codes "history")
row_of foreign.Bt = (codes "bt", codes "history")
row_of foreign.Where = (codes "where", codes "history")
row_of foreign.Set = (codes "set", codes "w NAME VAL, poke ADDR DATA")

abbrev pub word_of : Foreign → List ℕ
word_of f = (row_of f).0

abbrev pub here_of : Foreign → List ℕ
here_of f = (row_of f).1

abbrev pub foreigns : List Foreign
foreigns = foreign.Break ∷ foreign.B ∷ foreign.Continue ∷ foreign.C ∷ foreign.Step ∷ foreign.S ∷ foreign.Stepi ∷
    foreign.Si ∷ foreign.Finish ∷ foreign.Until ∷ foreign.ReverseStep ∷ foreign.ReverseNext ∷ foreign.ReverseStepi ∷
    foreign.ReverseContinue ∷ foreign.Watch ∷ foreign.Awatch ∷ foreign.Print ∷ foreign.P ∷ foreign.X ∷ foreign.Info ∷
    foreign.I ∷ foreign.Backtrace ∷ foreign.Bt ∷ foreign.Where ∷ foreign.Set ∷ []

-- the one that a word is
abbrev pub foreign_called : List ℕ → Option Foreign
foreign_called word = find (λ f. bytes_eq word (word_of f)) foreigns
