use Rattle.std.proofs.Common.{◌≡◌, ◌≤◌, ◌+◌, drop}
use Rattle.em_warnings.specs.Warnings.{there}
use Rattle.em_warnings.proofs.lines.count_of.Given as goal

-- those so far, and those to come
abbrev pub invariant-loop-warning : goal.invariant-loop-warning
invariant-loop-warning l =
    record {
      all : l.count + there (drop l.warning-index l.warnings) ≡ there l.warnings;
      few : l.count ≤ l.warning-index;
    }
