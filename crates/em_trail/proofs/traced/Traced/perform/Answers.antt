use Rattle.std.proofs.Common.{◌∙◌, ◌∷◌, take, length, ap, subst, arith}
use Rattle.em_step.specs.Event.{plain}
use Rattle.em_trail.specs.Note.{note_of}
use Rattle.em_trail.specs.Trail.{Trail, Noted, newest}
use Rattle.em_trail.proofs.TrailLaws.{holds-noted, newest_noted}
use Rattle.em_trail.proofs.traced.Traced.perform.Goals as goal

pub invariant_of-self-2 : goal.invariant_of-self-2
invariant_of-self-2 c =
    holds-noted c.self.inside.machine c.perform.new.self c.self.inside.notes c.push_front.new.self c.note_of.result
    (plain c.args.event) c.in_ok-answer.answer c.args.tag c.self.invariant c.in_ok-answer.ensures.ok.does
    (c.note_of.ensures ∙ ap (λ d. note_of d (plain c.args.event) c.in_ok-answer.answer c.args.tag) c.dma_of-dma.ensures)
    c.push_front.ensures.items (omega arith)

pub returns-clause-ok : goal.returns-clause-ok
returns-clause-ok c =
    let v = c.self.inside.machine in
    let w = c.perform.new.self in
    let event = plain c.args.event in
    let answer = c.in_ok-answer.answer in
    let notes = c.self.inside.notes in
    let noted = c.note_of.ensures ∙ ap (λ d. note_of d event answer c.args.tag) c.dma_of-dma.ensures in
    let are = newest_noted v w notes c.push_front.new.self c.note_of.result event answer c.in_ok-answer.ensures.ok.does
    c.push_front.ensures.items (omega arith) in
    subst
    (λ (t : Trail).
    Noted t (record { view = w; notes = newest w c.push_front.new.self.items }) c.args.tag event answer)
    c.self.view_is
    record {
      performed = c.in_ok-answer.ensures.ok.does;
      notes = are ∙ ap (λ n. take (length w.past) (n ∷ newest v notes.items)) noted;
    }
