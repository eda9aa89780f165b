-- What refused a command line: its name, and what the parser has to tell of it.
use Rattle.std.specs.Prelude.{List, ℕ, Option, Some, None, codes}
use Rattle.clap.specs.Words.{kind_of}
use Rattle.clap.specs.declared.error.Error.{Error}
use Rattle.clap.specs.declared.error.kind.ErrorKind.{ErrorKind}
use Rattle.clap.specs.declared.error.kind.ErrorKind.TheVariants as kind
use Rattle.em_options.specs.declared.settings.OptionsRefused.{OptionsRefused}
use Rattle.em_options.specs.declared.settings.OptionsRefused.TheVariants as refused

-- its name
abbrev pub name_of : OptionsRefused → List ℕ
name_of (refused.Parser error) = codes "Parser"
name_of refused.Mac = codes "Mac"

-- the parser's error where it has a text for the user: help or the version, or what is wrong with the words; of want of
-- memory it says nothing
abbrev pub told_by_kind : ErrorKind → Error → Option Error
told_by_kind kind.OutOfMemory error = None
told_by_kind other error = Some error

abbrev pub told_error : OptionsRefused → Option Error
told_error (refused.Parser error) = told_by_kind (kind_of error) error
told_error refused.Mac = None
