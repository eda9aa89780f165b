use Rattle.std.proofs.Common.{◌∙◌, sym, arith}
use Rattle.em_watch.proofs.SearchLaws.{changes_next, same_more}
use Rattle.em_watch.proofs.search.next_other.Goals as goal

pub returns-then-differ-clause-change : goal.returns-then-differ-clause-change
returns-then-differ-clause-change c =
    let loop = c.loop-k in
    changes_next c.args.machine.now c.args.from loop.k c.args.traced c.step_back-before.result (omega arith)
    (λ w is. c.step_back-before.ensures.back w (loop.invariant.back w is))
    (λ e. c.differ.ensures.different c.if-differ.true (c.sight.ensures ∙ e ∙ sym c.sight-now.ensures))
    loop.invariant.since

pub loop-k-preserved : goal.loop-k-preserved
loop-k-preserved c =
    let loop = c.loop-k in
    record {
      register = c.step_back-before.ensures.register;
      back = λ w is. c.step_back-before.ensures.back w (loop.invariant.back w is);
      since = same_more c.args.machine.now c.args.from loop.k c.args.traced c.step_back-before.result
          (λ w is. c.step_back-before.ensures.back w (loop.invariant.back w is))
          (sym c.sight.ensures ∙ c.differ.ensures.same c.if-differ.false ∙ c.sight-now.ensures) loop.invariant.since;
    }
