use Rattle.em_watch.proofs.DifferenceLaws.{difference, the_same}
use Rattle.em_watch.proofs.difference.difference_of.Goals as goal

pub returns-then-differ-clause-difference : goal.returns-then-differ-clause-difference
returns-then-differ-clause-difference c =
    difference c.args.watch c.args.machine.now c.args.back c.around-before.result.0 c.around-before.result.1
    c.sight-before.result c.sight-after.result c.around-before.ensures.before c.around-before.ensures.after
    c.sight-before.ensures c.sight-after.ensures (c.differ.ensures.different c.if-differ.true)

pub returns-else-differ-clause-none : goal.returns-else-differ-clause-none
returns-else-differ-clause-none c =
    the_same c.args.watch c.args.machine.now c.args.back c.around-before.result.0 c.around-before.result.1
    c.sight-before.result c.sight-after.result c.around-before.ensures.before c.around-before.ensures.after
    c.sight-before.ensures c.sight-after.ensures (c.differ.ensures.same c.if-differ.false)
