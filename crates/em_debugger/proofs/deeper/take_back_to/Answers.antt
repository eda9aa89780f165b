use Rattle.std.proofs.Common.{◌≡◌, ◌∙◌, ◌+◌, ◌<◌, ℕ, length, ap, arith}
use Rattle.em_journal.specs.View.{View}
use Rattle.em_journal.proofs.BackLaws.{past_left}
use Rattle.em_tape.specs.Tape.{Tape, behind, event_of}
use Rattle.em_debugger.proofs.NumberLaws.{event_at-back, stands_behind_line}
use Rattle.em_debugger.proofs.deeper.take_back_to.Goals as goal

pub returns-clause-seen : goal.returns-clause-seen
returns-clause-seen c =
    let old = c.args.deep.now in
    let new = c.back-taken.new.self in
    let past = old.session.machine.past in
    let steps = behind c.args.event old in
    let reach : c.can_go_back.result ≡ length past =
    c.can_go_back.ensures.past ∙ ap (λ (v : View). length v.past) c.machine.ensures.value in
    let held : steps < length past = omega (arith, c.behind-behind.ensures, reach) in
    let many : c.back-taken.result ≡ steps = omega (arith, c.back-taken.ensures.count, c.behind-behind.ensures, held) in
    let left = past_left c.back-taken.result old.session.machine new.session.machine
    (ap (λ (t : Tape). t.session.machine) c.back-taken.ensures.tape) in
    record {
      newest = ap event_of c.back-taken.ensures.tape
          ∙ ap (λ (n : ℕ). event_of (record old { back = old.back + n })) many ∙ event_at-back old steps
          ∙ stands_behind_line old c.args.event c.requires.some c.requires.performed c.requires.there.whole
          c.requires.there.back;
      held = omega (arith, left, many, held);
    }
