use Rattle.std.proofs.Common.{ℕ, ◌≤◌}
use Rattle.em_watch.specs.Change.{SeesSame}
use Rattle.em_watch.specs.Traced.{IsTraceable, IsTraced, LeadsBack}
use Rattle.em_watch.specs.declared.watch.Watch.{Watch}
use Rattle.em_watch.proofs.search.next_other.Given as goal

abbrev pub invariant-loop-k : goal.invariant-loop-k
invariant-loop-k l = record {
  register : IsTraceable l.before;
  back : LeadsBack l.machine l.from l.fn.traced l.k l.before;
  since : (w : Watch) → IsTraced w l.machine l.from l.fn.traced
      → (i : ℕ) → l.from ≤ i → i ≤ l.k → SeesSame w l.machine i l.from;
}
