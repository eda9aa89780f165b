use Rattle.std.proofs.Common.{sym, ◌∙◌}
use Rattle.em_regs.specs.declared.table.Kind.TheVariants.{Stored}
use Rattle.em_step.specs.Cells.{shows}
use Rattle.em_step.proofs.Registers.{costs_by as writes_cost}
use Rattle.em_regs.specs.Table.{offset_of}
use Rattle.em_step.specs.Event.{writes}
use Rattle.em_journal.proofs.RecordsLaws.{entered, entry_does, plain_cost, plain_kept}
use Rattle.em_journal.proofs.machine.Machine.write_stored.Goals as goal

pub invariant_of-self : goal.invariant_of-self
invariant_of-self c =
    let kept = c.keep.ensures in
    let done = c.write_stored-newest.ensures in
    let octets = c.self.inside.records.octets in
    entered kept.same kept.octets kept.waits (done.performed octets) (plain_kept octets kept.items done.plain) c.self.invariant
    kept.places kept.counted kept.held

pub returns : goal.returns
returns c =
    let kept = c.keep.ensures in
    let done = c.write_stored-newest.ensures in
    let octets = c.self.inside.records.octets in
    entry_does (writes (offset_of c.args.reg) c.args.value) kept.same kept.octets (done.performed octets)
    (plain_kept octets kept.items done.plain) c.self.invariant kept.some c.self.view_is

pub keep-requires-clause-cost : goal.keep-requires-clause-cost
keep-requires-clause-cost c =
    sym (plain_cost c.self.inside.records.octets c.write_stored-newest.ensures
    ∙ writes_cost Stored (shows c.self.inside.adapter) c.args.reg c.args.value c.requires.only.0 c.requires.only.1)
