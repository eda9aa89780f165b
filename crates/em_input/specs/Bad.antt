-- What is wrong with a line of a script.
use Rattle.std.specs.Prelude.{◌≡◌, ℕ, Bool, true, false, not, ◌&&◌, List, codes, Option, Some, None, Result, Ok, Err}
use Rattle.em_regs.specs.declared.profile.Profile.{Profile}
use Rattle.em_regs.specs.declared.reg.Reg.{Reg}
use Rattle.em_line.specs.Grammar.{parsed_line}
use Rattle.em_line.specs.ParsedLine.{is_read}
use Rattle.em_line.specs.Parts.{said_in}
use Rattle.em_prompt.specs.Prompt.{Wrong, prompted}
use Rattle.em_prompt.specs.Scripted.{played}
use Rattle.em_prompt.specs.Typed.{Typed}
use Rattle.em_prompt.specs.WrongText.{wrong_text}

-- em_bench does not read a line
abbrev pub has_no_form : List ℕ → Bool
has_no_form text = not (is_read (parsed_line text))

-- it does not read a line that says this, nor what is played of it
abbrev pub is_bad : Profile → List ℕ → Bool
is_bad profile said = has_no_form said && has_no_form (played profile said)

-- it is said what is wrong with words, and, where one names no register, which may be meant
abbrev pub IsToldWrong : Wrong → List ℕ → Type 0
IsToldWrong wrong text = (near : Option (List Reg)) × (text ≡ wrong_text near wrong)

-- what is no line of a script is said to be one that is typed; or it is said what is wrong with its words
abbrev pub IsReason : Result Typed Wrong → List ℕ → Type 0
IsReason (Ok typed) text = text ≡ codes "it is typed into a debugger, and no line of a script"
IsReason (Err wrong) text = IsToldWrong wrong text

-- a line that is bad for a machine of a profile has a reason, and no other line has one
abbrev pub IsWrong : Profile → List ℕ → Option (List ℕ) → Type 0
IsWrong profile line None = is_bad profile (said_in line) ≡ false
IsWrong profile line (Some text) = (is_bad profile (said_in line) ≡ true) × IsReason (prompted profile (said_in line)) text
