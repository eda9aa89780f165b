use Rattle.std.proofs.Common.{◌≡◌, ◌∙◌, ◌≤◌, List, ap, arith, length, subst, sym}
use Rattle.em_step.specs.Cells.{Cells, shows}
use Rattle.em_step.specs.Undo.{Undo}
use Rattle.em_journal.specs.Records.{AllFit, back_through, undos_of, view_of}
use Rattle.em_journal.specs.View.{oldest, sent_before, view_without}
use Rattle.em_journal.proofs.FramesLaws.{all_fit_without, oldest_shorter, view_of_without}
use Rattle.em_journal.proofs.machine.Machine.let_frames_go.Goals as goal

pub let_frames_go-requires : goal.let_frames_go-requires
let_frames_go-requires c =
    let undos = undos_of c.self.inside.records.ring.items c.self.inside.records.octets in
    omega (
      arith,
      c.sent_before-count.ensures ∙ ap sent_before (sym c.self.view_is),
      oldest_shorter c.self.inside.adapter undos,
    )

pub invariant_of-self : goal.invariant_of-self
invariant_of-self c =
    let undos = undos_of c.self.inside.records.ring.items c.self.inside.records.octets in
    let was = c.self.inside.adapter in
    let k = c.sent_before-count.result in
    let least : k ≤ length (oldest (shows was) (back_through was undos)).wire
    = omega (arith, c.sent_before-count.ensures ∙ ap sent_before (sym c.self.view_is)) in
    let journal = c.self.invariant.0 in (
      record {
        fit = subst (λ d. AllFit d undos) (sym c.let_frames_go.ensures) (all_fit_without k was undos journal.fit least);
        counted = journal.counted;
        held = journal.held;
        places = journal.places;
        allowed = journal.allowed;
      },
      c.self.invariant.1,
    )

pub returns-clause-view : goal.returns-clause-view
returns-clause-view c =
    let undos = undos_of c.self.inside.records.ring.items c.self.inside.records.octets in
    let was = c.self.inside.adapter in
    let k = c.sent_before-count.result in
    let least : k ≤ length (oldest (shows was) (back_through was undos)).wire
    = omega (arith, c.sent_before-count.ensures ∙ ap sent_before (sym c.self.view_is)) in
    (λ i. view_of c.self.inside.budget (c.let_frames_go.ensures i) undos)
    ∙ view_of_without k c.self.inside.budget was undos c.self.invariant.0.fit least
    ∙ ap (view_without k) c.self.view_is
