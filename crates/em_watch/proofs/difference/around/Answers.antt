use Rattle.std.proofs.Common.{◌≡◌, ◌+◌, ◌-◌, ℕ, ap, arith, subst, sym, Some}
use Rattle.em_watch.specs.Traced.{IsTraced}
use Rattle.em_watch.proofs.TracedLaws.{traceable_there}
use Rattle.em_watch.proofs.difference.around.Goals as goal

pub returns-clause-after : goal.returns-clause-after
returns-clause-after c = c.follow-after.ensures c.args.watch (ap Some (sym c.of-now.ensures))

pub step_back-requires-clause-register : goal.step_back-requires-clause-register
step_back-requires-clause-register c =
    traceable_there c.args.watch c.args.machine.now (c.args.back - 1) c.follow-after.result
    (c.follow-after.ensures c.args.watch (ap Some (sym c.of-now.ensures)))

pub returns-clause-before : goal.returns-clause-before
returns-clause-before c =
    let same : c.args.back - 1 + 1 ≡ c.args.back = omega (arith, c.requires.some) in
    subst (λ (k : ℕ). IsTraced c.args.watch c.args.machine.now k c.step_back.result) same
    (c.step_back.ensures.back c.args.watch
    (c.follow-after.ensures c.args.watch (ap Some (sym c.of-now.ensures))))
