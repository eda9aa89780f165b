-- What a line says that somebody types, or what is wrong with it.
use Rattle.std.specs.Prelude.{ℕ, List, [], ◌∷◌, Option, Some, None, Result, Ok, Err}
use Rattle.em_regs.specs.declared.profile.Profile.{Profile}
use Rattle.em_prompt.specs.declared.command.Command.{Command}
use Rattle.em_prompt.specs.declared.wrong.Wrong.{Wrong as Lent}
use Rattle.em_prompt.specs.declared.wrong.Wrong.TheVariants as lent
use Rattle.em_prompt.specs.declared.typed.Typed.{Typed as LentTyped}
use Rattle.em_prompt.specs.Fault as faults
use Rattle.em_prompt.specs.Fault.{Fault}
use Rattle.em_prompt.specs.Says.{says}
use Rattle.em_prompt.specs.Short.{meant}
use Rattle.em_prompt.specs.Told.{told, first_word, behind_first}
use Rattle.em_prompt.specs.Typed as typed
use Rattle.em_prompt.specs.Typed.{Typed, silent}

pub data Wrong : Type 0 where
  -- the first word is the name of no command
  unknown : List ℕ → Wrong
  -- the words behind the name of a command
  behind : Command → Fault → Wrong

abbrev pub plain_wrong : Lent → Wrong
plain_wrong (lent.Unknown word) = unknown word.now
plain_wrong (lent.Behind command fault) = behind command (faults.plain fault)

-- what the code answers, without where words lie in memory
abbrev pub plain : Result LentTyped Lent → Result Typed Wrong
plain (Ok said) = Ok (typed.plain said)
plain (Err wrong) = Err (plain_wrong wrong)

-- what a command says, or the first fault of the words behind its name
abbrev pub judged : Command → Result Typed Fault → Result Typed Wrong
judged command (Ok said) = Ok said
judged command (Err fault) = Err (behind command fault)

-- a command with what stands behind its name
abbrev pub command_line : Profile → Command → List ℕ → Result Typed Wrong
command_line profile command rest = judged command (says profile command rest)

abbrev pub found_line : Profile → List ℕ → Option Command → List ℕ → Result Typed Wrong
found_line profile name None rest = Err (unknown name)
found_line profile name (Some command) rest = command_line profile command rest

-- a line with this first word, and what stands behind it
abbrev pub named_line : Profile → List ℕ → List ℕ → Result Typed Wrong
named_line profile [] rest = Ok silent
named_line profile (octet ∷ octets) rest = found_line profile (octet ∷ octets) (meant (octet ∷ octets)) rest

-- what a line says, in which registers are those of a profile
unfoldable pub prompted : Profile → List ℕ → Result Typed Wrong
prompted profile line = named_line profile (first_word (told line)) (behind_first (told line))
