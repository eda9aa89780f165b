-- What the words of a command line say, by the parser's meaning of the command.
use Rattle.std.specs.Prelude.{◌≡◌, ◌<◌, ◌^◌, ◌==◌, ◌&&◌, nat_lt, ℕ, Bool, true, false, List, [], ◌∷◌, length}
use Rattle.std.specs.Prelude.{Option, Some, Ok, IfSome, IsSomeAnd, find, codes, decimal}
use Rattle.std.specs.List.{AllPass}
use Rattle.std.specs.Option.{option_map_or}
use Rattle.std.specs.Str.{bytes_eq}
use Rattle.std.specs.Str.Parse.{IsNumeral, digits_value, without_leading_plus}
use Rattle.hex.specs.Hex.{decode_of, encode_upper, is_hex_digit}
use Rattle.clap.specs.Words.{App, Rule, Text, HasKind, fault_of, first_of, matches_of, new_app, new_rule, with_rule}
use Rattle.clap.specs.Words.{found_of, rows_of}
use Rattle.clap.specs.declared.builder.action.ArgAction.TheVariants.{Set}
use Rattle.clap.specs.declared.builder.value_parser.ValueParser.{ValueParser}
use Rattle.clap.specs.declared.builder.value_parser.ValueParser.TheVariants.{Unsigned}
use Rattle.clap.specs.declared.parser.matches.ArgMatches.{ArgMatches}
use Rattle.em_regs.specs.declared.profile.Profile.TheVariants.{Table}
use Rattle.em_journal.specs.Settings.{defaults}
use Rattle.em_journal.specs.declared.settings.Settings.{Settings}
use Rattle.em_options.specs.declared.settings.Options.{Options}
use Rattle.em_options.specs.declared.settings.OptionsRefused.{OptionsRefused}
use Rattle.em_options.specs.declared.settings.OptionsRefused.TheVariants.{Parser, Mac}

-- ---- the command

-- `--name VALUE`, with a default
abbrev pub option_rule : Text → Text → Rule
option_rule name default = record (new_rule name) {
  long = Some name;
  action = Some Set;
  value_names = 1;
  defaults = default ∷ [];
}

-- `--name N`, with a default: a number of 64 bits
abbrev pub number_rule : Text → Text → Rule
number_rule name default =
    record (option_rule name default) { parser = Some (Unsigned 0 18446744073709551615) }

-- one word that may be left out
abbrev pub script_rule : Rule
script_rule = record (new_rule (codes "script")) { value_names = 1 }

-- `[--memory N] [--budget N] [--mac HEX12] [SCRIPT]`; the options' defaults are those of `Settings`
abbrev pub rules : List Rule
rules =
    number_rule (codes "memory") (decimal defaults.memory)
    ∷ number_rule (codes "budget") (decimal defaults.budget)
    ∷ option_rule (codes "mac") (encode_upper defaults.mac)
    ∷ script_rule ∷ []

-- the program's name, and that it has a version
abbrev pub named : App
named = record (new_app (codes "em_bench")) {
  top = record (new_app (codes "em_bench")).top { has_version = true };
}

abbrev pub with_rules : App → List Rule → App
with_rules app [] = app
with_rules app (rule ∷ more) = with_rules (with_rule app rule) more

unfoldable pub em_bench : App
em_bench = with_rules named rules

-- ---- its options, by their names

abbrev pub has_default : Rule → Bool
has_default rule = nat_lt 0 (length rule.defaults)

abbrev pub is_of_numbers : Option ValueParser → Bool
is_of_numbers (Some (Unsigned least most)) = least == 0 && most == 18446744073709551615
is_of_numbers _ = false

abbrev pub rule_named : Text → Option Rule
rule_named name = find (λ rule. bytes_eq rule.id name) rules

-- an option with a default has this name, so that it has a value whatever the words are
abbrev pub is_option : Text → Bool
is_option name = option_map_or has_default (rule_named name) false

-- and its value is a number
abbrev pub is_number : Text → Bool
is_number name = option_map_or (λ rule. has_default rule && is_of_numbers rule.parser) (rule_named name) false

-- ---- what words say

-- the matches are those of these words
abbrev pub HasMatches : List Text → ArgMatches → Type 0
HasMatches words matches = rows_of (found_of matches) ≡ matches_of em_bench words

-- the text that these words give an option or the script, or its default
unfoldable pub said : Text → List Text → Option Text
said name words = first_of name (matches_of em_bench words)

-- a number that 64 bits hold, in decimal digits
abbrev pub IsNumberText : Text → Type 0
IsNumberText text = IsNumeral 10 (without_leading_plus text)
    × (digits_value 10 (without_leading_plus text) < 2 ^ 64)

-- the text is there, and spells this number
abbrev pub SaysNumber : Option Text → ℕ → Type 0
SaysNumber said number = IsSomeAnd said (λ text. IsNumeral 10 (without_leading_plus text)
    × (digits_value 10 (without_leading_plus text) ≡ number))

-- the text is there, and spells these octets
abbrev pub SaysOctets : Option Text → List ℕ → Type 0
SaysOctets said octets = IsSomeAnd said (λ text. decode_of text ≡ Ok octets)

-- 12 hexadecimal digits, and anything else
abbrev pub IsMac : Text → Type 0
IsMac text = (length text ≡ 12) × AllPass is_hex_digit text

abbrev pub IsNoMac : Text → Type 0
IsNoMac text = IsMac text → ⊥

-- the parser refuses the words, or else the address is none
abbrev pub IsRefusedFor : List Text → OptionsRefused → Type 0
IsRefusedFor words (Parser error) = HasKind (fault_of em_bench words) error
IsRefusedFor words Mac = (fault_of em_bench words ≡ []) × IfSome (said (codes "mac") words) IsNoMac

-- what a machine is made of
abbrev pub settings_of : Options → Settings
settings_of options = record {
  profile = Table;
  base = 0;
  memory = options.memory;
  budget = options.budget;
  mac = options.mac;
}
