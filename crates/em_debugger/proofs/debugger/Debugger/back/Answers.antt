use Rattle.std.proofs.Common.{◌≡◌, ◌-◌, ◌<◌, length, ltb, refl, subst, sym, ap, ◌∙◌, arith}
use Rattle.std.proofs.lemmas.Result.{MatchResult-from_err}
use Rattle.em_journal.specs.View.{View}
use Rattle.em_tape.specs.Tape.{event_at, event_of}
use Rattle.em_text.proofs.WritingLemmas.{Writes-more, WritesPart-front}
use Rattle.em_debugger.specs.Marks.{marks_of}
use Rattle.em_debugger.specs.Moves.{NotesLast, budget_text, taken, taken_text}
use Rattle.em_debugger.proofs.TextLaws.{Writes-zero}
use Rattle.em_debugger.proofs.MovesLaws.{Writes-back, more_text}
use Rattle.em_debugger.proofs.debugger.Debugger.back.Goals as goal

pub returns-then-newest-eq0-clause-writes : goal.returns-then-newest-eq0-clause-writes
returns-then-newest-eq0-clause-writes g c =
    let old = c.args.self.now.tape in
    let reach : c.can_go_back.result ≡ length old.session.machine.past =
    c.can_go_back.ensures.past ∙ ap (λ (v : View). length v.past) c.machine.ensures.value in
    let least : c.min-least.result ≡ taken c.args.most old = omega (arith, c.min-least.ensures, reach) in
    let note = c.note_of_last-note.result in
    let noted : NotesLast (taken c.args.most old) old note =
    subst (λ n. NotesLast n old note) least c.note_of_last-note.ensures in (
      note,
      noted,
      Writes-zero _ _ _ (event_of old) _ _ (sym c.event-newest.ensures ∙ c.if-newest-eq0.true)
          c.write_whole.ensures.writes,
    )

pub returns-clause-writes : goal.returns-clause-writes
returns-clause-writes g c =
    let old = c.args.self.now.tape in
    let reach : c.can_go_back.result ≡ length old.session.machine.past =
    c.can_go_back.ensures.past ∙ ap (λ (v : View). length v.past) c.machine.ensures.value in
    let least : c.min-least.result ≡ taken c.args.most old = omega (arith, c.min-least.ensures, reach) in
    let note = c.note_of_last-note.result in
    let noted : NotesLast (taken c.args.most old) old note =
    subst (λ n. NotesLast n old note) least c.note_of_last-note.ensures in
    let tape = c.back-taken.new.self in
    let many = c.back-taken.result in
    let last = c.event_back-last.result in
    let some : 0 < event_of old = omega (arith, c.event-newest.ensures) in
    let steps : c.saturating_sub.result ≡ taken c.args.most old - 1 =
    omega (arith, c.saturating_sub.ensures, c.min-least.ensures, reach) in (
      note,
      noted,
      Writes-back _ _ _ (marks_of c.args.self.now) tape old c.args.most many last c.event.result note c.back-taken.ensures.count
          (c.event_back-last.ensures ∙ ap (λ k. event_at k old) steps) c.event.ensures some
          (Writes-more _ _ _ _ (taken_text (marks_of c.args.self.now) tape many last note) (budget_text (ltb many c.args.most) c.event.result)
          (more_text (marks_of c.args.self.now) tape c.args.most many last note c.event.result) c.in_ok-write_taken.ensures.writes
          c.write_budget.ensures.writes refl),
    )

pub returns-in_err-write_taken-clause-writes : goal.returns-in_err-write_taken-clause-writes
returns-in_err-write_taken-clause-writes g c =
    let old = c.args.self.now.tape in
    let reach : c.can_go_back.result ≡ length old.session.machine.past =
    c.can_go_back.ensures.past ∙ ap (λ (v : View). length v.past) c.machine.ensures.value in
    let least : c.min-least.result ≡ taken c.args.most old = omega (arith, c.min-least.ensures, reach) in
    let note = c.note_of_last-note.result in
    let noted : NotesLast (taken c.args.most old) old note =
    subst (λ n. NotesLast n old note) least c.note_of_last-note.ensures in
    let tape = c.back-taken.new.self in
    let many = c.back-taken.result in
    let last = c.event_back-last.result in
    let some : 0 < event_of old = omega (arith, c.event-newest.ensures) in
    let steps : c.saturating_sub.result ≡ taken c.args.most old - 1 =
    omega (arith, c.saturating_sub.ensures, c.min-least.ensures, reach) in (
      note,
      noted,
      Writes-back _ _ _ (marks_of c.args.self.now) tape old c.args.most many last (event_of tape) note c.back-taken.ensures.count
          (c.event_back-last.ensures ∙ ap (λ k. event_at k old) steps) refl some
          (MatchResult-from_err _ _ _ c.from_residual.ensures.0 (λ _.
          WritesPart-front (budget_text (ltb many c.args.most) (event_of tape)) c.in_err-write_taken.ensures.writes
          refl)),
    )
