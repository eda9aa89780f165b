use Rattle.std.proofs.Common.{◌+◌, ◌∙◌, ap, sym}
use Rattle.em_journal.specs.Records.{undos_of}
use Rattle.em_journal.specs.View.{View}
use Rattle.em_journal.proofs.RecordLaws.{sizes_stay}
use Rattle.em_journal.proofs.machine.Machine.memory_size.Goals as goal

pub returns-clause-states : goal.returns-clause-states
returns-clause-states c =
    sizes_stay c.self.inside.budget c.self.inside.adapter
    (undos_of c.self.inside.records.ring.items c.self.inside.records.octets) c.args.self.now
    (c.args.self.now.present.base + c.memory_size.result)
    c.self.invariant.0.fit c.self.view_is
    (ap (λ (v : View). v.present.base + c.memory_size.result) (sym c.self.view_is) ∙ c.memory_size.ensures)
