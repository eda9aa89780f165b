use Rattle.std.proofs.Common.{not, ap, sym, arith}
use Rattle.std.proofs.lemmas.Bool.{false≢true}
use Rattle.em_mem.proofs.MemoryLaws.{ends}
use Rattle.em_mem.proofs.NeedsLaws.{leaves_past}
use Rattle.em_mem.proofs.memory.GuestMemory.holds.Goals as goal

pub returns-in-None-clause-held : goal.returns-in-None-clause-held
returns-in-None-clause-held c =
    let end = ends c.args.self.now c.self.inside.base c.self.inside.size c.self.inside.store c.self.invariant
    c.self.view_is in (
      λ is. absurd (false≢true is),
      λ held. absurd (omega (arith, held.to, end, c.self.invariant.range.end, c.in-None.ensures)),
    )

pub returns-in-None-clause-leaves : goal.returns-in-None-clause-leaves
returns-in-None-clause-leaves c =
    let end = ends c.args.self.now c.self.inside.base c.self.inside.size c.self.inside.store c.self.invariant
    c.self.view_is in
    sym (ap not (leaves_past c.args.self.now.base c.args.self.now.octets c.args.addr c.args.len
    (omega (arith, end, c.self.invariant.range.end, c.in-None.ensures))))
