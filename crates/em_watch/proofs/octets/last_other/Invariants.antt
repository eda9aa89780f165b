use Rattle.std.proofs.Common.{◌≡◌, ℕ, ◌≤◌, ◌<◌, get_or}
use Rattle.std.specs.Prelude.{◌≢◌}
use Rattle.em_watch.proofs.octets.last_other.Given as goal

abbrev pub invariant-loop-i : goal.invariant-loop-i
invariant-loop-i l = record {
  from : l.known ≤ l.last;
  within : l.last < l.len;
  other : get_or l.before l.last 0 ≢ get_or l.after l.last 0;
  rest : (j : ℕ) → l.last < j → j < l.i → get_or l.before j 0 ≡ get_or l.after j 0;
}
