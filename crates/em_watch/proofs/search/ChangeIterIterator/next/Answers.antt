use Rattle.std.proofs.Common.{ap, arith, length}
use Rattle.em_watch.specs.Search.{Search}
use Rattle.em_watch.proofs.SearchLaws.{fewer_left}
use Rattle.em_watch.proofs.TracedLaws.{traceable_there}
use Rattle.em_watch.proofs.search.ChangeIterIterator.next.Goals as goal

pub next_other-requires-clause-register : goal.next_other-requires-clause-register
next_other-requires-clause-register c =
    let s = c.self.inside in
    traceable_there s.watch s.machine.now s.back s.traced c.self.invariant

pub returns-clause-goes : goal.returns-clause-goes
returns-clause-goes c =
    let s = c.self.inside in
    let next = c.in_ok-back.ensures.change s.watch c.self.invariant in
    let fewer = fewer_left s.watch s.machine.now s.back _ next in
    let back = ap (λ (x : Search). x.back) c.self.view_is in
    let past = ap (λ (x : Search). length x.view.past) c.self.view_is in
    record { on = λ _. (tt, tt, omega (arith, fewer, back, past)); keeps = tt; rests = λ _. tt }
