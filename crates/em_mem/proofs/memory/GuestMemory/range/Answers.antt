use Rattle.std.proofs.Common.{◌≡◌, ◌+◌, ◌++◌, ℕ, take, subst, arith}
use Rattle.std.proofs.lemmas.List.{take_at}
use Rattle.em_mem.specs.Memory.{Cells, zeros}
use Rattle.em_mem.proofs.MemoryLaws.{begins, ends}
use Rattle.em_mem.proofs.RowLaws.{length-zeros}
use Rattle.em_mem.proofs.memory.GuestMemory.range.Goals as goal

pub returns-clause-size : goal.returns-clause-size
returns-clause-size c =
    omega (
      arith,
      begins c.args.self.now c.self.inside.base c.self.inside.size c.self.inside.store c.self.invariant c.self.view_is,
      ends c.args.self.now c.self.inside.base c.self.inside.size c.self.inside.store c.self.invariant c.self.view_is,
    )

pub returns-clause-front : goal.returns-clause-front
returns-clause-front c =
    let base = c.self.inside.base in
    let part = take c.self.inside.size c.self.inside.store.octets in
    let front : take base (zeros base ++ part) ≡ zeros base = take_at (zeros base) part base (length-zeros base) in
    subst (λ (m : Cells). take base m.octets ≡ zeros base) c.self.view_is front
