use Rattle.std.proofs.Common.{◌≡◌, ◌+◌, ◌-◌, arith, subst, sym}
use Rattle.std.proofs.lemmas.Result.{MatchResult-from_err}
use Rattle.em_tape.specs.Moves.{TakesBack}
use Rattle.em_tape.proofs.CutLaws.{takes_more}
use Rattle.em_tape.proofs.tape.Tape.take_for_good.Goals as goal

pub loop-left-preserved : goal.loop-left-preserved
loop-left-preserved c =
    let events = c.args.events in
    let left = c.loop-left.left in
    let step = c.min-step.result in
    let within = c.loop-left.invariant.within in
    let e : (events - left) + step ≡ events - (left - step) = omega (arith, within, c.min-step.ensures) in
    record {
      takes = subst (TakesBack c.args.self.now c.take_by_line.new.self) e
          (takes_more (events - left) step c.loop-left.invariant.takes c.in_ok-take_by_line.ensures.ok);
      none = λ nothing. absurd (omega (arith, within, c.loop-left-test.true));
      within = omega (arith, within);
    }

pub returns-in_err-take_by_line-clause-err : goal.returns-in_err-take_by_line-clause-err
returns-in_err-take_by_line-clause-err c =
    let left = c.loop-left.left in
    let within = c.loop-left.invariant.within in
    MatchResult-from_err _ _ _ c.from_residual.ensures.0 (λ _. record {
      taken = c.args.events - left;
      fewer = omega (arith, within, c.loop-left-test.true);
      takes = subst (λ t. TakesBack c.args.self.now t (c.args.events - left)) (sym c.in_err-take_by_line.ensures.err)
          c.loop-left.invariant.takes;
    })
