use Rattle.em_watch.specs.Traced.{IsTraceable, LeadsBack}
use Rattle.em_watch.proofs.search.follow.Given as goal

abbrev pub invariant-loop-k : goal.invariant-loop-k
invariant-loop-k l = record {
  register : IsTraceable l.before;
  back : LeadsBack l.machine l.from l.fn.traced l.k l.before;
}
