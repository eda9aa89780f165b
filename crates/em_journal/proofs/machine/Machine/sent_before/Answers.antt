use Rattle.std.proofs.Common.{◌≡◌, ◌∙◌, ◌+◌, ◌≤◌, suc, ap, arith, length, sym, take}
use Rattle.em_step.specs.Cells.{Cells, shows}
use Rattle.em_step.specs.State.{State}
use Rattle.em_step.specs.Undo.{undo}
use Rattle.em_journal.specs.View.{oldest}
use Rattle.em_journal.proofs.FramesLaws.{oldest_all, oldest_is}
use Rattle.em_journal.proofs.machine.Machine.sent_before.Goals as goal

pub loop-k-preserved : goal.loop-k-preserved
loop-k-preserved c =
    let v = c.args.self.now in
    let k = c.loop-k.k in
    let is = c.in-Some.ensures.found in
    let here : oldest v.present (take k v.past) ≡ shows is.0 = oldest_is k v.present v.past (shows is.0) is.2 in
    let next : oldest v.present (take (suc k) v.past) ≡ shows (undo is.0 c.in-Some.past)
    = oldest_is (suc k) v.present v.past (shows (undo is.0 c.in-Some.past)) is.3 in
    let sent : length (shows is.0).wire ≡ c.loop-k.sent
    = sym (c.loop-k.invariant ∙ ap (λ (s : State). length s.wire) here) in
    let more : suc k ≡ k + 1 = omega arith in
    sym (c.sent_before-sent.ensures is.0 is.1 sent)
    ∙ sym (ap (λ (s : State). length s.wire) next)
    ∙ ap (λ n. length (oldest v.present (take n v.past)).wire) more

pub returns : goal.returns
returns c =
    let v = c.args.self.now in
    c.loop-k.invariant
    ∙ ap (λ (s : State). length s.wire) (oldest_all c.loop-k.k v.present v.past (omega (arith, c.can_go_back-k-end.ensures.past)))
