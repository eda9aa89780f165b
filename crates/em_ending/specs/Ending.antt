-- How the program ends: its status and its line on standard error, for each ending.
use Rattle.std.specs.Prelude.{ℕ, Bool, false, List, [], ◌∷◌, ◌==◌, ◌++◌, if◌then◌else◌, codes}
use Rattle.std.specs.Prelude.{◌≡◌, ◌<◌, ◌≤◌, ◌⊎◌, Result, Ok, Err}
use Rattle.std.specs.declared.io.ErrorKind.{ErrorKind as IoKind}
use Rattle.std.specs.declared.io.ErrorKind.TheVariants as io
use Rattle.clap.specs.Words.{kind_of}
use Rattle.clap.specs.declared.error.kind.ErrorKind.{ErrorKind}
use Rattle.clap.specs.declared.error.kind.ErrorKind.TheVariants as kind
use Rattle.em_journal.specs.Settings.{name_of as refusal_name, IsRefusedAs}
use Rattle.em_journal.specs.declared.settings.Settings.{Settings}
use Rattle.em_journal.specs.declared.settings.SettingsRefusal.{SettingsRefusal}
use Rattle.em_journal.specs.declared.settings.SettingsRefusal.TheVariants as settings
use Rattle.em_script.specs.Fault.{name_of as fault_name}
use Rattle.em_script.specs.declared.fault.BenchFault.{BenchFault}
use Rattle.em_script.specs.declared.fault.BenchFault.TheVariants as fault
use Rattle.em_run.specs.declared.summary.Summary.{Summary}
use Rattle.em_ending.specs.declared.ending.Ending.{Ending}
use Rattle.em_ending.specs.declared.ending.Ending.TheVariants.{Ran, Help, Parser, Mac, Size, Budget, Fault}
use Rattle.em_options.specs.declared.settings.OptionsRefused.{OptionsRefused}
use Rattle.em_options.specs.declared.settings.OptionsRefused.TheVariants as refused

-- 0 where all is well, 1 where a line was bad, 2 where the command line is, 3 where the run stopped
abbrev pub status_of : Ending → ℕ
status_of (Ran summary) = if summary.bad == 0 then 0 else 1
status_of Help = 0
status_of Parser = 2
status_of Mac = 2
status_of Size = 2
status_of Budget = 2
status_of (Fault why) = 3

-- a name after that of the program
abbrev pub line_of : List ℕ → List ℕ
line_of name = codes "em_bench: " ++ name

-- what the program says of its own on standard error; nothing where the parser has said it
abbrev pub error_line_of : Ending → List ℕ
error_line_of (Ran summary) = []
error_line_of Help = []
error_line_of Parser = []
error_line_of Mac = line_of (codes "Mac")
error_line_of Size = line_of (refusal_name settings.Size)
error_line_of Budget = line_of (refusal_name settings.Budget)
error_line_of (Fault why) = line_of (fault_name why)

-- a line, where there is one
abbrev pub as_line : List ℕ → List ℕ
as_line [] = []
as_line (octet ∷ octets) = (octet ∷ octets) ++ codes "\n"

-- what stands on standard error, where it can be written
abbrev pub told_text : Ending → List ℕ
told_text ending = as_line (error_line_of ending)

-- help and the version end well, and want of memory is no fault of the words
abbrev pub ending_of_kind : ErrorKind → Ending
ending_of_kind kind.DisplayHelp = Help
ending_of_kind kind.DisplayVersion = Help
ending_of_kind kind.OutOfMemory = Fault fault.Memory
ending_of_kind other = Parser

-- a command line that is refused
abbrev pub ending_of_refusal : OptionsRefused → Ending
ending_of_refusal (refused.Parser error) = ending_of_kind (kind_of error)
ending_of_refusal refused.Mac = Mac

-- the parser's text was printed, or could not be: help that can't be printed is a fault
abbrev pub after_print : Bool → Ending → Ending
after_print false Help = Fault fault.Write
after_print printed ending = ending

-- want of memory is named as such, wherever it comes
abbrev pub memory_or : IoKind → Ending → Ending
memory_or io.OutOfMemory other = Fault fault.Memory
memory_or kind other = other

-- words that can't be had: for want of memory, or since one of them is no text
abbrev pub ending_of_words : IoKind → Ending
ending_of_words kind = memory_or kind Parser

-- a script that can't be opened
abbrev pub ending_of_open : IoKind → Ending
ending_of_open kind = memory_or kind (Fault fault.Read)

-- settings of which no machine was made
abbrev pub ending_of_settings : SettingsRefusal → Ending
ending_of_settings settings.Size = Size
ending_of_settings settings.Budget = Budget
ending_of_settings settings.Memory = Fault fault.Memory

-- no machine was made of the settings, and the program ends by what refused them: first by more memory than a run of
-- the program has
abbrev pub EndsWithoutMachine : Settings → Ending → Type 0
EndsWithoutMachine settings ending =
    ((16_777_216 < settings.memory) × (ending ≡ Size))
    ⊎ ((settings.memory ≤ 16_777_216)
    × ((refusal : SettingsRefusal) × IsRefusedAs settings refusal × (ending ≡ ending_of_settings refusal)))

-- a script that was run, or stopped
abbrev pub ending_of_run : Result Summary BenchFault → Ending
ending_of_run (Ok summary) = Ran summary
ending_of_run (Err why) = Fault why
