use Rattle.std.proofs.Common.{refl, rules}
use Rattle.std.specs.Prelude.{IfErr}
use Rattle.em_step.specs.Event.{transmits}
use Rattle.em_step.specs.Step.{Refuses}
use Rattle.em_journal.proofs.RecordsLaws.{entered, entry_does, plain_kept, fields_same, refusal_does, shown_same}
use Rattle.em_journal.proofs.machine.Machine.transmit_step.Goals as goal

pub invariant_of-self-2 : goal.invariant_of-self-2
invariant_of-self-2 c =
    let kept = c.keep.ensures in
    let done = c.in_ok-answer.ensures.ok in
    let octets = c.self.inside.records.octets in
    entered kept.same kept.octets kept.waits (done.performed octets) (plain_kept octets kept.items done.plain) c.self.invariant
    kept.places kept.counted kept.held

pub returns-clause-ok : goal.returns-clause-ok
returns-clause-ok c =
    let kept = c.keep.ensures in
    let done = c.in_ok-answer.ensures.ok in
    let octets = c.self.inside.records.octets in
    entry_does transmits kept.same kept.octets (done.performed octets)
    (plain_kept octets kept.items done.plain) c.self.invariant kept.some c.self.view_is

pub invariant_of-self : goal.invariant_of-self
invariant_of-self c = fields_same refl c.in_err-answer.ensures.err.same c.self.invariant

pub returns-in_err-answer-clause-err : goal.returns-in_err-answer-clause-err
returns-in_err-answer-clause-err c =
    let why : IfErr c.from_residual.result (Refuses c.args.self.now.present transmits) = search rules in
    refusal_does transmits c.from_residual.result why
    (shown_same c.self.inside.records.ring.items refl c.in_err-answer.ensures.err.same c.self.view_is)
