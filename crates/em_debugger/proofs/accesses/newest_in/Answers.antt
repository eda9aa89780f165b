use Rattle.std.proofs.Common.{◌≡◌, ◌+◌, ◌-◌, sym, ap, ◌∙◌, subst, arith}
use Rattle.em_journal.specs.View.{states}
use Rattle.em_tape.specs.Tape.{event_at}
use Rattle.em_trail.specs.Trail.{TellsAt}
use Rattle.em_debugger.specs.Accesses.{NoneOf}
use Rattle.em_debugger.proofs.AccessesLaws.{none_more}
use Rattle.em_debugger.proofs.accesses.newest_in.Goals as goal

pub returns-then-is_of-clause-some : goal.returns-then-is_of-clause-some
returns-then-is_of-clause-some c =
    let tape = c.args.tape.now in
    let same : c.loop-steps.steps ≡ c.loop-steps.steps + 1 - 1 = omega arith in
    record {
      older = omega (arith, c.loop-steps.invariant.within);
      newer = subst (λ n. NoneOf tape c.args.sort c.args.back n) same c.loop-steps.invariant.none;
      event = c.event_back.ensures ∙ ap (λ n. event_at n tape) same;
      note = subst (λ n. TellsAt (states tape.session.machine) n c.in-Some.note) same c.in-Some.ensures.tells;
      is = sym c.is_of.ensures ∙ c.if-is_of.true;
    }

pub loop-steps-preserved : goal.loop-steps-preserved
loop-steps-preserved c = record {
  within = omega (arith, c.loop-steps.invariant.within);
  none = none_more c.args.tape.now c.args.sort c.args.back c.loop-steps.steps c.in-Some.note
      c.loop-steps.invariant.none c.in-Some.ensures.tells (sym c.is_of.ensures ∙ c.if-is_of.false);
}
