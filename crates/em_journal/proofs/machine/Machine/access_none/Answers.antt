use Rattle.std.proofs.Common.{sym}
use Rattle.em_step.specs.Event.{reads, writes}
use Rattle.em_journal.proofs.RecordsLaws.{entered, entry_does, plain_cost, plain_kept}
use Rattle.em_journal.proofs.machine.Machine.access_none.Goals as goal

pub invariant_of-self : goal.invariant_of-self
invariant_of-self c =
    let kept = c.keep.ensures in
    let done = c.in_ok-newest.ensures.read in
    let octets = c.self.inside.records.octets in
    entered kept.same kept.octets kept.waits (done.performed octets) (plain_kept octets kept.items done.plain) c.self.invariant
    kept.places kept.counted kept.held

pub returns-clause-read : goal.returns-clause-read
returns-clause-read c =
    let kept = c.keep.ensures in
    let done = c.in_ok-newest.ensures.read in
    let octets = c.self.inside.records.octets in
    entry_does (reads c.args.offset) kept.same kept.octets (done.performed octets)
    (plain_kept octets kept.items done.plain) c.self.invariant kept.some c.self.view_is

pub returns-clause-write : goal.returns-clause-write
returns-clause-write c = λ v.
    let kept = c.keep.ensures in
    let done = c.in_ok-newest.ensures.write v in
    let octets = c.self.inside.records.octets in
    entry_does (writes c.args.offset v) kept.same kept.octets (done.performed octets)
    (plain_kept octets kept.items done.plain) c.self.invariant kept.some c.self.view_is

pub keep-requires-clause-cost : goal.keep-requires-clause-cost
keep-requires-clause-cost c = sym (plain_cost c.self.inside.records.octets c.in_ok-newest.ensures.read)
