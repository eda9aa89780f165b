use Rattle.std.proofs.Common.{rules, ap, ◌∙◌}
use Rattle.std.specs.Prelude.{IfErr}
use Rattle.em_step.specs.Event.{receives}
use Rattle.em_step.specs.Step.{Refuses}
use Rattle.em_journal.specs.Records.{places_in, view_of}
use Rattle.em_journal.proofs.RecordsLaws.{entered, entry_does, fields_same, ready_fields, refusal_does, saved_kept, shown_same}
use Rattle.em_journal.proofs.machine.Machine.receive_step.Goals as goal

pub invariant_of-self-2 : goal.invariant_of-self-2
invariant_of-self-2 c =
    let kept = c.keep.ensures in
    let done = c.in_ok-answer.ensures in
    let r = c.make_ready.ensures in
    let ready = ready_fields r.undos (λ i. places_in (r.ring i).capacity (r.larger i)) r.used r.saved c.self.invariant in
    entered kept.same kept.octets kept.waits done.ok (saved_kept kept.items done.keeps r.room ready.1) ready
    kept.places kept.counted kept.held

pub returns-clause-ok : goal.returns-clause-ok
returns-clause-ok c =
    let kept = c.keep.ensures in
    let done = c.in_ok-answer.ensures in
    let r = c.make_ready.ensures in
    let ready = ready_fields r.undos (λ i. places_in (r.ring i).capacity (r.larger i)) r.used r.saved c.self.invariant in
    entry_does receives kept.same kept.octets done.ok
    (saved_kept kept.items done.keeps r.room ready.1) ready kept.some
    (ap (view_of c.self.inside.budget c.self.inside.adapter) r.undos ∙ c.self.view_is)

pub invariant_of-self : goal.invariant_of-self
invariant_of-self c =
    let r = c.make_ready.ensures in
    let ready = ready_fields r.undos (λ i. places_in (r.ring i).capacity (r.larger i)) r.used r.saved c.self.invariant in
    fields_same c.in_err-answer.ensures.saved c.in_err-answer.ensures.err.same ready

pub returns-in_err-answer-clause-err : goal.returns-in_err-answer-clause-err
returns-in_err-answer-clause-err c =
    let why : IfErr c.from_residual.result (Refuses c.args.self.now.present receives) = search rules in
    refusal_does receives c.from_residual.result why
    (shown_same c.make_ready.new.self.ring.items c.in_err-answer.ensures.saved c.in_err-answer.ensures.err.same
    (ap (view_of c.self.inside.budget c.self.inside.adapter) c.make_ready.ensures.undos ∙ c.self.view_is))
