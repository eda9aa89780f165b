use Rattle.em_watch.proofs.TracedLaws.{traced_next}
use Rattle.em_watch.proofs.search.step_back.Goals as goal

pub returns-clause-back : goal.returns-clause-back
returns-clause-back c =
    traced_next c.args.machine.now c.args.k c.in-Some.past c.args.traced c.before-in-Some.result
    c.in-Some.ensures.found c.before-in-Some.ensures.before
