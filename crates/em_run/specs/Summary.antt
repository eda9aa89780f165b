-- How the lines of a script are counted.
use Rattle.std.specs.Prelude.{◌+◌, Bool, true, false, List, count_by}
use Rattle.em_script.specs.declared.outcome.Outcome.{Outcome}
use Rattle.em_script.specs.declared.outcome.Outcome.TheVariants as outcome
use Rattle.em_run.specs.declared.summary.Summary.{Summary}

-- neither blank nor a comment
abbrev pub is_counted : Outcome → Bool
is_counted outcome.Silent = false
is_counted _ = true

abbrev pub is_bad : Outcome → Bool
is_bad outcome.Bad = true
is_bad _ = false

abbrev pub is_refused : Outcome → Bool
is_refused (outcome.Refused why) = true
is_refused _ = false

abbrev pub counts : List Outcome → Summary
counts all = record { lines = count_by is_counted all; bad = count_by is_bad all; refused = count_by is_refused all }

-- one more line
abbrev pub after_outcome : Summary → Outcome → Summary
after_outcome summary outcome.Silent = summary
after_outcome summary outcome.Bad = record summary { lines = summary.lines + 1; bad = summary.bad + 1 }
after_outcome summary (outcome.Refused why) =
    record summary { lines = summary.lines + 1; refused = summary.refused + 1 }
after_outcome summary _ = record summary { lines = summary.lines + 1 }
