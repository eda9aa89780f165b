use Rattle.em_journal.proofs.CopyLaws.{copied_fields, copied_view}
use Rattle.em_journal.proofs.machine.Machine.copy.Goals as goal

pub invariant_of-result : goal.invariant_of-result
invariant_of-result c =
    let all = c.in_ok-copies.ensures in
    copied_fields c.self.inside.records.ring.items c.in_ok-copies.copies.ring.items c.in_ok-adapter.ensures all.records all.octets all.waits
    all.places all.used c.self.invariant

pub returns : goal.returns
returns c =
    let all = c.in_ok-copies.ensures in
    copied_view c.self.inside.records.ring.items c.in_ok-copies.copies.ring.items c.self.inside.budget c.in_ok-adapter.ensures all.records
    all.octets c.self.view_is
