use Rattle.std.proofs.Common.{◌≡◌, ◌+◌, ◌≤◌, drop}
use Rattle.em_warnings.specs.Warnings.{there}
use Rattle.em_c.specs.Warning.{laid}
use Rattle.em_c.proofs.warnings.lay.Given as goal

abbrev pub invariant-loop-warning : goal.invariant-loop-warning
invariant-loop-warning l = record {
  rest : laid (drop l.warning-index l.found) l.at l.list ≡ laid l.found 0 l.initial.list;
  count : l.at + there (drop l.warning-index l.found) ≡ there l.found;
  within : l.at ≤ l.warning-index;
}
