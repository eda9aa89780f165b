use Rattle.std.proofs.Common.{◌≡◌, ◌+◌, ◌∙◌, Bool, List, Option, ap, length, refl, sym, arith}
use Rattle.std.specs.Prelude.{◌&&◌, if◌then◌else◌, Err, Some, None, min}
use Rattle.std.proofs.lemmas.Result.{MatchResult-from_err}
use Rattle.em_script.specs.Outcome.{event_came}
use Rattle.em_script.specs.declared.outcome.Outcome.{Outcome}
use Rattle.em_journal.specs.View.{View}
use Rattle.em_step.specs.Event.{Event}
use Rattle.em_warnings.specs.Warnings.{found_of, is_asked}
use Rattle.em_warnings.specs.declared.warning.Warning.{Warning}
use Rattle.em_debugger.specs.Performing.{stays, unnoted, unplayed}
use Rattle.em_debugger.specs.Place.{line_here}
use Rattle.em_debugger.proofs.CameLaws.{comes_set}
use Rattle.em_debugger.proofs.RefusedLaws.{unplayed_by}
use Rattle.em_debugger.proofs.SendingLaws.{keeps_ready}
use Rattle.em_debugger.proofs.WarningsLaws.{says_since}
use Rattle.em_debugger.proofs.debugger.Debugger.perform_ahead.Goals as goal

-- what was found by what a line came to is what the rules say of it as it came out
warned_so : (warns : Bool) (v : View) (event : Option Event) (o came : Outcome) (found : Option (List (Option Warning)))
    → found ≡ (if warns && is_asked (event_came o) then found_of v event (event_came o) else None) → came ≡ o
    → found ≡ (if warns && is_asked (event_came came) then found_of v event (event_came came) else None)
warned_so warns v event o came found is so =
    is ∙ ap (λ out. if warns && is_asked (event_came out) then found_of v event (event_came out) else None) (sym so)

pub count_answer-requires : goal.count_answer-requires
count_answer-requires c =
    let comes = comes_set _ _ _ c.line_here-line.result _ c.make_ready.ensures.stay c.in_ok-make_ready.ensures.place
    c.set-in-Ok-note.ensures in
    warned_so _ c.perform_next.new.self.session.machine _ _ _ _ (rw c.event.ensures at c.in-Ok-warned_by.ensures) comes.this

pub returns-in-Ok-note-clause-some : goal.returns-in-Ok-note-clause-some
returns-in-Ok-note-clause-some c =
    let old = c.args.self.now.tape in
    let line = c.line_here-line.result in
    let all : min line (length old.did) ≡ line = omega (arith, c.line_here-line.ensures.performed) in
    let there : min line (length old.did) ≡ line_here old = all ∙ c.line_here-line.ensures.line in
    let before = c.to_line.new.self in
    let first = rw c.machine.ensures.value at c.wire_len-sent.ensures in
    let behind = rw c.machine-2.ensures.value at c.wire_len-now.ensures in
    rw c.count_answer.ensures (record {
      number = ap (λ n. n + 1) c.line_here-line.ensures.line;
      before = before;
      whole = record {
        tape = c.in_ok-to_line.ensures.ok
            ∙ ap (λ n. record old { whole = n; back = 0; session = before.session }) there;
        here = λ none. c.to_line.ensures.here none (all ∙ c.line_here-line.ensures.whole none);
      };
      plays = rw c.clear.ensures.items at (rw c.in-Ok-Some.field-0-is at c.in-Ok-Some.ensures.ok);
      noted = rw c.as_slice.ensures.value at c.in-Ok-note.ensures.ok;
      came = comes_set _ _ _ line _ c.make_ready.ensures.stay c.in_ok-make_ready.ensures.place c.set-in-Ok-note.ensures;
      settings = refl;
      warnings = rw c.line_here-line.ensures.line at (says_since _ _ _ line _ c.prepare.ensures.stay c.say.ensures);
      asked = refl;
      warns = refl;
      wanted = refl;
      marks = refl;
      sent = rw (first, behind) at (keeps_ready (line + 1) c.wire_len-sent.result c.wire_len-now.result _ _ _
          c.make_ready-2.ensures.stay c.make_ready-2.ensures.none c.set.ensures);
      warned = warned_so _ c.perform_next.new.self.session.machine _ _ _ _ (rw c.event.ensures at c.in-Ok-warned_by.ensures)
          (comes_set _ _ _ line _ c.make_ready.ensures.stay c.in_ok-make_ready.ensures.place
          c.set-in-Ok-note.ensures).this;
      score = refl;
      engines = refl;
      offered = refl;
      bookmarks = refl;
    })

pub returns-in_err-make_ready-clause-err : goal.returns-in_err-make_ready-clause-err
returns-in_err-make_ready-clause-err c =
    MatchResult-from_err _ _ _ c.from_residual.ensures.0 (λ _. unplayed (record {
      told = λ line. refl;
      came = c.make_ready.ensures.stay;
      wanted = λ line. refl;
      marks = λ line. refl;
      sent = λ line. refl;
      settings = refl;
      warnings = λ k. refl;
      asked = refl;
      warns = refl;
      score = refl;
      engines = refl;
      offered = refl;
      bookmarks = refl;
    }) (stays refl))

pub returns-in_err-prepare-clause-err : goal.returns-in_err-prepare-clause-err
returns-in_err-prepare-clause-err c =
    MatchResult-from_err _ _ _ c.from_residual-in_err-prepare.ensures.0 (λ _. unplayed (record {
      told = λ line. refl;
      came = c.make_ready.ensures.stay;
      wanted = λ line. refl;
      marks = λ line. refl;
      sent = λ line. refl;
      settings = refl;
      warnings = c.prepare.ensures.stay;
      asked = refl;
      warns = refl;
      score = refl;
      engines = refl;
      offered = refl;
      bookmarks = refl;
    }) (stays refl))

pub returns-in_err-to_line-clause-err : goal.returns-in_err-to_line-clause-err
returns-in_err-to_line-clause-err c =
    MatchResult-from_err _ _ _ c.from_residual-in_err-to_line.ensures.0 (λ _. unplayed (record {
      told = λ line. refl;
      came = c.make_ready.ensures.stay;
      wanted = λ line. refl;
      marks = λ line. refl;
      sent = λ line. refl;
      settings = refl;
      warnings = c.prepare.ensures.stay;
      asked = refl;
      warns = refl;
      score = refl;
      engines = refl;
      offered = refl;
      bookmarks = refl;
    }) (stays c.in_err-to_line.ensures.err))

pub returns-in-Err-clause-err : goal.returns-in-Err-clause-err
returns-in-Err-clause-err c =
    let old = c.args.self.now.tape in
    let line = c.line_here-line.result in
    let all : min line (length old.did) ≡ line = omega (arith, c.line_here-line.ensures.performed) in
    let there : min line (length old.did) ≡ line_here old = all ∙ c.line_here-line.ensures.line in
    let before = c.to_line.new.self in
    unplayed_by _ _ before _ _ c.in-Err.field-0 (record {
      tape = c.in_ok-to_line.ensures.ok
          ∙ ap (λ n. record old { whole = n; back = 0; session = before.session }) there;
      here = λ none. c.to_line.ensures.here none (all ∙ c.line_here-line.ensures.whole none);
    }) (ap Some c.clear.ensures.items) (record {
      told = λ line. refl;
      came = c.make_ready.ensures.stay;
      wanted = λ line. refl;
      marks = λ line. refl;
      sent = λ line. refl;
      settings = refl;
      warnings = c.prepare.ensures.stay;
      asked = refl;
      warns = refl;
      score = refl;
      engines = refl;
      offered = refl;
      bookmarks = refl;
    }) c.in-Err.ensures.only (λ is. c.in-Err.ensures.write (ap Err is))
    (λ is. c.in-Err.ensures.memory (ap Err is))

pub returns-in-Err-note-clause-err : goal.returns-in-Err-note-clause-err
returns-in-Err-note-clause-err c =
    let old = c.args.self.now.tape in
    let line = c.line_here-line.result in
    let all : min line (length old.did) ≡ line = omega (arith, c.line_here-line.ensures.performed) in
    let there : min line (length old.did) ≡ line_here old = all ∙ c.line_here-line.ensures.line in
    let before = c.to_line.new.self in
    unnoted (record {
      told = c.in-Err-note.ensures.err;
      came = c.make_ready.ensures.stay;
      wanted = λ line. refl;
      marks = λ line. refl;
      sent = c.make_ready-2.ensures.stay;
      settings = refl;
      warnings = c.prepare.ensures.stay;
      asked = refl;
      warns = refl;
      score = refl;
      engines = refl;
      offered = refl;
      bookmarks = refl;
    }) (record {
      before = before;
      whole = record {
        tape = c.in_ok-to_line.ensures.ok
            ∙ ap (λ n. record old { whole = n; back = 0; session = before.session }) there;
        here = λ none. c.to_line.ensures.here none (all ∙ c.line_here-line.ensures.whole none);
      };
      text = _;
      replied = _;
      plays = rw c.clear.ensures.items at (rw c.in-Ok-Some.field-0-is at c.in-Ok-Some.ensures.ok);
    })

pub returns-in_default-clause-err : goal.returns-in_default-clause-err
returns-in_default-clause-err c =
    let old = c.args.self.now.tape in
    let line = c.line_here-line.result in
    let all : min line (length old.did) ≡ line = omega (arith, c.line_here-line.ensures.performed) in
    let there : min line (length old.did) ≡ line_here old = all ∙ c.line_here-line.ensures.line in
    let before = c.to_line.new.self in
    unnoted (record {
      told = λ line. refl;
      came = c.make_ready.ensures.stay;
      wanted = λ line. refl;
      marks = λ line. refl;
      sent = c.make_ready-2.ensures.stay;
      settings = refl;
      warnings = c.prepare.ensures.stay;
      asked = refl;
      warns = refl;
      score = refl;
      engines = refl;
      offered = refl;
      bookmarks = refl;
    }) (record {
      before = before;
      whole = record {
        tape = c.in_ok-to_line.ensures.ok
            ∙ ap (λ n. record old { whole = n; back = 0; session = before.session }) there;
        here = λ none. c.to_line.ensures.here none (all ∙ c.line_here-line.ensures.whole none);
      };
      text = _;
      replied = _;
      plays = rw c.clear.ensures.items at (rw c.in-Ok-Some.field-0-is at c.in-Ok-Some.ensures.ok);
    })

pub returns-in_default-warned_by-clause-err : goal.returns-in_default-warned_by-clause-err
returns-in_default-warned_by-clause-err c =
    let old = c.args.self.now.tape in
    let line = c.line_here-line.result in
    let all : min line (length old.did) ≡ line = omega (arith, c.line_here-line.ensures.performed) in
    let there : min line (length old.did) ≡ line_here old = all ∙ c.line_here-line.ensures.line in
    let before = c.to_line.new.self in
    unnoted (record {
      told = λ line. refl;
      came = c.make_ready.ensures.stay;
      wanted = λ line. refl;
      marks = λ line. refl;
      sent = c.make_ready-2.ensures.stay;
      settings = refl;
      warnings = c.prepare.ensures.stay;
      asked = refl;
      warns = refl;
      score = refl;
      engines = refl;
      offered = refl;
      bookmarks = refl;
    }) (record {
      before = before;
      whole = record {
        tape = c.in_ok-to_line.ensures.ok
            ∙ ap (λ n. record old { whole = n; back = 0; session = before.session }) there;
        here = λ none. c.to_line.ensures.here none (all ∙ c.line_here-line.ensures.whole none);
      };
      text = _;
      replied = _;
      plays = rw c.clear.ensures.items at (rw c.in-Ok-Some.field-0-is at c.in-Ok-Some.ensures.ok);
    })
