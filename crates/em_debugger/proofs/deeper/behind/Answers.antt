use Rattle.std.proofs.Common.{◌≡◌, ◌+◌, ◌-◌, subst, arith}
use Rattle.em_debugger.specs.Deeper.{IsAgainTo}
use Rattle.em_debugger.proofs.deeper.behind.Goals as goal

pub loop-done-preserved : goal.loop-done-preserved
loop-done-preserved c =
    let e : c.loop-done.done ≡ c.loop-done.done + 1 - 1 = omega arith in
    c.in_ok-do_again.ensures c.args.settings
    (subst (λ n. IsAgainTo c.args.settings c.args.tape.now n c.loop-done.deep) e c.loop-done.invariant)
