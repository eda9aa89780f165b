use Rattle.em_watch.proofs.TracedLaws.{traceable_now}
use Rattle.em_watch.proofs.search.change_within.Goals as goal

pub next_other-requires-clause-register : goal.next_other-requires-clause-register
next_other-requires-clause-register c =
    traceable_now c.args.watch c.args.machine.now.present c.of-now.result c.of-now.ensures
