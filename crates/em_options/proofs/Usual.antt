-- A command line without words says the defaults.
use Rattle.std.proofs.Common.{◌≡◌, ◌∙◌, ◌≤◌, ◌++◌, ℕ, List, [], ◌∷◌, Option, Some, None, Ok, length, refl, sym, ap}
use Rattle.std.proofs.Common.{subst, arith}
use Rattle.std.specs.Prelude.{decimal}
use Rattle.std.specs.Str.Parse.{digits_value, without_leading_plus}
use Rattle.hex.specs.Hex.{decode_of}
use Rattle.clap.specs.Walk.{Row, Rule, Text, first_of, reading_by}
use Rattle.clap.specs.Words.{matches_of}
use Rattle.clap.specs.declared.parser.matches.ValueSource.TheVariants.{DefaultValue}
use Rattle.clap.proofs.OnLiterals.{clap_on_literals}
use Rattle.em_options.specs.Options.{SaysNumber, SaysOctets, em_bench, rules, said}

-- what is found for a rule that no word speaks of
abbrev row_of_default : Rule → List Text → List Row
row_of_default rule [] = []
row_of_default rule (text ∷ texts) = record {
  id = rule.id;
  values = text ∷ texts;
  count = None;
  source = Some DefaultValue;
  reading = reading_by rule;
} ∷ []

abbrev pub rows_of_defaults : List Rule → List Row
rows_of_defaults [] = []
rows_of_defaults (rule ∷ more) = row_of_default rule rule.defaults ++ rows_of_defaults more

usual_rows : (words : List Text) → length words ≤ 1 → matches_of em_bench words ≡ rows_of_defaults rules
unfolding em_bench clap_on_literals
usual_rows [] few = refl
usual_rows (name ∷ []) few = refl
usual_rows (name ∷ word ∷ words) few = absurd (omega arith)

pub usual_number : (name : Text) (words : List Text) (n default : ℕ) → length words ≤ 1
    → first_of name (rows_of_defaults rules) ≡ Some (decimal default)
    → digits_value 10 (without_leading_plus (decimal default)) ≡ default
    → SaysNumber (said name words) n → n ≡ default
unfolding said
usual_number name words n default few is value says =
    let known = ap (first_of name) (usual_rows words few) ∙ is in
    let spelled = subst (λ (o : Option Text). SaysNumber o n) known says in
    sym spelled.1 ∙ value

pub usual_octets : (name : Text) (words : List Text) (octets : List ℕ) (text : Text) (default : List ℕ)
    → length words ≤ 1 → first_of name (rows_of_defaults rules) ≡ Some text → decode_of text ≡ Ok default
    → SaysOctets (said name words) octets → octets ≡ default
unfolding said
usual_octets name words octets text default few is value says =
    let known = ap (first_of name) (usual_rows words few) ∙ is in
    let spelled = subst (λ (o : Option Text). SaysOctets o octets) known says in
    let same = sym spelled ∙ value in
    cc
