use Rattle.std.proofs.Common.{ap, arith, length, refl}
use Rattle.em_watch.specs.MemorySearch.{MemorySearch}
use Rattle.em_watch.proofs.octets.MemoryChangesIterator.next.Goals as goal

pub returns-clause-goes : goal.returns-clause-goes
returns-clause-goes c =
    let s = c.self.inside in
    let held = (c.in_ok-change.ensures.held 0 s.machine.now.present refl).to in
    let addr = ap (λ (x : MemorySearch). x.addr) c.self.view_is in
    let size = ap (λ (x : MemorySearch). length x.view.present.memory) c.self.view_is in
    record { on = λ _. (tt, tt, omega (arith, held, c.in_ok-change.ensures.from, addr, size)); keeps = tt; rests = λ _. tt }
