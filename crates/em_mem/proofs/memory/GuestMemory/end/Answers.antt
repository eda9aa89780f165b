use Rattle.em_mem.proofs.MemoryLaws.{ends}
use Rattle.em_mem.proofs.memory.GuestMemory.end.Goals as goal

pub returns-clause-end : goal.returns-clause-end
returns-clause-end c =
    ends c.args.self.now c.self.inside.base c.self.inside.size c.self.inside.store c.self.invariant c.self.view_is
