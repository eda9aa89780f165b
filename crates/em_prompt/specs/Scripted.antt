-- A line of a script, in the language that one types.
use Rattle.std.specs.Prelude.{ℕ, Bool, false, not, ◌&&◌, ◌||◌, nat_lt, if◌then◌else◌, List, [], ◌∷◌, codes, is_some, length}
use Rattle.std.specs.Prelude.{Option, Some, None, Result, Ok, Err}
use Rattle.std.specs.Str.{bytes_eq}
use Rattle.em_text.specs.Words.{words_of}
use Rattle.em_line.specs.Grammar.{parsed_line}
use Rattle.em_line.specs.ParsedLine.{is_read}
use Rattle.em_regs.specs.declared.profile.Profile.{Profile}
use Rattle.em_regs.specs.declared.profile.Profile.TheVariants.{Table, Adapter}
use Rattle.em_prompt.specs.BenchLine.{BenchLine, text_of}
use Rattle.em_prompt.specs.Prompt.{Wrong, prompted}
use Rattle.em_prompt.specs.Register.{named}
use Rattle.em_prompt.specs.Typed.{Typed, line}

-- the line of em_bench's that was said
abbrev pub bench_in : Result Typed Wrong → Option BenchLine
bench_in (Ok (line bench)) = Some bench
bench_in _ = None

-- a command reads or writes a register
abbrev pub is_access : List ℕ → Bool
is_access command = bytes_eq command (codes "r") || bytes_eq command (codes "w")

-- these words access a register by a name, where names may be offsets too: in the second profile
abbrev pub names_one : Profile → List (List ℕ) → Bool
names_one Table words = false
names_one Adapter [] = false
names_one Adapter (command ∷ []) = false
names_one Adapter (command ∷ word ∷ words) = is_access command && is_some (named Adapter word)

-- em_bench reads a line that says this, and means the same by it
abbrev pub is_plain : Profile → List ℕ → Bool
is_plain profile said = is_read (parsed_line said) && not (names_one profile (words_of said))

-- the line of em_bench's that a line of a script says in other words than em_bench reads, by the registers of a profile
abbrev pub scripted : Profile → List ℕ → Option BenchLine
scripted profile said = if is_plain profile said then None else
    (if nat_lt (length said) 0xFFFF_FFFF then bench_in (prompted profile said) else None)

-- its text as it is kept; any other line as it stands
abbrev pub kept_or : List ℕ → Option BenchLine → List ℕ
kept_or said None = said
kept_or said (Some bench) = text_of bench

-- what is played of a line that says this
abbrev pub played : Profile → List ℕ → List ℕ
played profile said = kept_or said (scripted profile said)
