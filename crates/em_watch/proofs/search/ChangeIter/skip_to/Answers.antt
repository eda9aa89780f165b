use Rattle.em_watch.proofs.TracedLaws.{traceable_there}
use Rattle.em_watch.proofs.search.ChangeIter.skip_to.Goals as goal

pub follow-self-inside-requires-clause-register : goal.follow-self-inside-requires-clause-register
follow-self-inside-requires-clause-register c =
    let s = c.self.inside in
    traceable_there s.watch s.machine.now s.back s.traced c.self.invariant
