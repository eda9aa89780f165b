use Rattle.std.proofs.Common.{◌<◌, ap, subst}
use Rattle.std.proofs.lemmas.Result.{MatchResult-from_err}
use Rattle.em_debugger.specs.declared.debugger.Debugger.{Debugger}
use Rattle.em_debugger.specs.Performing.{unengaged}
use Rattle.em_debugger.proofs.EventBefore.{engages_so}
use Rattle.em_debugger.proofs.RefusedLaws.{keeps_beside}
use Rattle.em_debugger.proofs.debugger.Debugger.perform_next.Goals as goal

pub returns-in_ok-engage-in-Some-clause-some : goal.returns-in_ok-engage-in-Some-clause-some
returns-in_ok-engage-in-Some-clause-some c = record {
  between = c.perform_ahead.new.self;
  performs = rw c.in-Some.is at c.in_ok-performed.ensures.some;
  engages = engages_so c.event_before-before.result _ c.in-Some.performed c.perform_ahead.new.self _
      (λ more. c.event_before-before.ensures
      (subst (λ n. 0 < n) (rw c.in-Some.is at c.in_ok-performed.ensures.some).engines more))
      c.in_ok-engage-in-Some.ensures.ok;
}

pub returns-in_err-engage-in-Some-clause-err : goal.returns-in_err-engage-in-Some-clause-err
returns-in_err-engage-in-Some-clause-err c =
    let between = c.perform_ahead.new.self in
    let new = c.engage.new.self in
    let refused = c.in_err-engage-in-Some.ensures.err in
    MatchResult-from_err _ _ _ c.from_residual-in_err-engage-in-Some.ensures.0 (λ _.
    unengaged between c.in-Some.performed (rw c.in-Some.is at c.in_ok-performed.ensures.some)
    (ap (λ (d : Debugger). d.tape) refused.rest) (keeps_beside between new refused))

pub returns-in_err-performed-clause-err : goal.returns-in_err-performed-clause-err
returns-in_err-performed-clause-err c =
    MatchResult-from_err _ _ _ c.from_residual.ensures.0 (λ _. c.in_err-performed.ensures.err)
