use Rattle.std.proofs.Common.{arith}
use Rattle.em_mem.proofs.MemoryLaws.{begins, ends}
use Rattle.em_mem.proofs.memory.GuestMemory.len.Goals as goal

pub returns : goal.returns
returns c =
    omega (
      arith,
      begins c.args.self.now c.self.inside.base c.self.inside.size c.self.inside.store c.self.invariant c.self.view_is,
      ends c.args.self.now c.self.inside.base c.self.inside.size c.self.inside.store c.self.invariant c.self.view_is,
    )
