use Rattle.std.proofs.Common.{ap, ◌∙◌}
use Rattle.em_step.specs.Event.{arrives}
use Rattle.em_journal.specs.Records.{places_in, view_of}
use Rattle.em_journal.proofs.RecordsLaws.{entered, entry_does, ready_fields, saved_kept}
use Rattle.em_journal.proofs.machine.Machine.arrive.Goals as goal

pub invariant_of-self-2 : goal.invariant_of-self-2
invariant_of-self-2 c =
    let kept = c.keep.ensures in
    let done = c.in_ok-answer.ensures in
    let r = c.make_ready.ensures in
    let ready = ready_fields r.undos (λ i. places_in (r.ring i).capacity (r.larger i)) r.used r.saved c.self.invariant in
    entered kept.same kept.octets kept.waits done.ok (saved_kept kept.items done.keeps r.room ready.1) ready
    kept.places kept.counted kept.held

pub returns-clause-ok : goal.returns-clause-ok
returns-clause-ok c =
    let kept = c.keep.ensures in
    let done = c.in_ok-answer.ensures in
    let r = c.make_ready.ensures in
    let ready = ready_fields r.undos (λ i. places_in (r.ring i).capacity (r.larger i)) r.used r.saved c.self.invariant in
    entry_does (arrives c.args.frame.now) kept.same kept.octets done.ok
    (saved_kept kept.items done.keeps r.room ready.1) ready kept.some
    (ap (view_of c.self.inside.budget c.self.inside.adapter) r.undos ∙ c.self.view_is)
