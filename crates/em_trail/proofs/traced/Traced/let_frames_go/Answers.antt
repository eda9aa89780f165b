use Rattle.std.proofs.Common.{◌≡◌, ◌∙◌, ◌≤◌, length, ap, arith, subst, sym}
use Rattle.em_journal.specs.View.{View, oldest, sent_before, view_without}
use Rattle.em_trail.specs.Trail.{HoldsTrail, newest, trail_without}
use Rattle.em_trail.proofs.FramesLaws.{holds_without, newest_without}
use Rattle.em_trail.proofs.traced.Traced.let_frames_go.Goals as goal

pub invariant_of-self : goal.invariant_of-self
invariant_of-self c =
    let v = c.self.inside.machine in
    let k = c.let_frames_go.result in
    let least : k ≤ length (oldest v.present v.past).wire = omega (arith, c.let_frames_go.ensures.count) in
    subst (HoldsTrail c.self.inside.notes) (sym c.let_frames_go.ensures.view)
    (holds_without k c.self.inside.notes v least c.self.invariant)

pub returns-clause-trail : goal.returns-clause-trail
returns-clause-trail c =
    let v = c.self.inside.machine in
    let k = c.let_frames_go.result in
    let items = c.self.inside.notes.items in
    let view = c.let_frames_go.ensures.view in
    (λ i. record { view = view i; notes = newest (view i) items })
    ∙ (λ i. record { view = view_without k v; notes = newest_without k v items i })
    ∙ ap (trail_without k) c.self.view_is
