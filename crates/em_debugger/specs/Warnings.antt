-- What the rules that tell what drivers get wrong said of the lines, as it is kept.
use Rattle.std.specs.Prelude.{◌≡◌, ◌≢◌, ℕ, nat_lt, if◌then◌else◌, List, [], get_or, Option, Some, None}
use Rattle.std.specs.Global.{Box}
use Rattle.em_warnings.specs.Warnings.{found_count}
use Rattle.em_warnings.specs.declared.warning.Warning.{Warning}

-- what is kept of a line: what each rule said, where one said something
abbrev pub Said : Type 0
Said = Option (Box (List (Option Warning)))

abbrev pub opened : Said → List (Option Warning)
opened None = []
opened (Some said) = said.value

-- what they said of the line behind the first k; where nothing is kept of it, nothing
abbrev pub said_behind : ℕ → List Said → List (Option Warning)
said_behind k lines = opened (get_or lines k None)

abbrev pub warnings_in : Option (List (Option Warning)) → List (Option Warning)
warnings_in None = []
warnings_in (Some warnings) = warnings

-- what they say, if one of them says something
abbrev pub told_by : Option (List (Option Warning)) → List (Option Warning)
told_by found = if nat_lt 0 (found_count found) then warnings_in found else []

-- beside each line the same stands
abbrev pub StaySaid : List Said → List Said → Type 0
StaySaid old new = (k : ℕ) → said_behind k new ≡ said_behind k old

-- this they said of the line behind the first k, and of the others what they said
pub record SaysSo (k : ℕ) (found : Option (List (Option Warning))) (old new : List Said) : Type 0 where
  pub this : said_behind k new ≡ told_by found
  pub others : (n : ℕ) → n ≢ k → said_behind n new ≡ said_behind n old
