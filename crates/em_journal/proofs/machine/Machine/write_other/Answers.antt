use Rattle.em_regs.specs.Table.{offset_of}
use Rattle.em_step.specs.Event.{writes}
use Rattle.em_journal.proofs.RecordsLaws.{entered, entry_does, plain_kept}
use Rattle.em_journal.proofs.machine.Machine.write_other.Goals as goal

pub invariant_of-self-2 : goal.invariant_of-self-2
invariant_of-self-2 c =
    let kept = c.keep.ensures in
    let done = c.in_ok-newest.ensures.ok in
    let octets = c.self.inside.records.octets in
    entered kept.same kept.octets kept.waits (done.performed octets) (plain_kept octets kept.items done.plain) c.self.invariant
    kept.places kept.counted kept.held

pub returns-clause-ok : goal.returns-clause-ok
returns-clause-ok c =
    let kept = c.keep.ensures in
    let done = c.in_ok-newest.ensures.ok in
    let octets = c.self.inside.records.octets in
    entry_does (writes (offset_of c.args.reg) c.args.value) kept.same kept.octets (done.performed octets)
    (plain_kept octets kept.items done.plain) c.self.invariant kept.some c.self.view_is
