use Rattle.std.proofs.Common.{sym, ◌∙◌}
use Rattle.em_debugger.proofs.LostLaws.{none_more}
use Rattle.em_debugger.proofs.lost.lost_in.Goals as goal

pub loop-steps-preserved : goal.loop-steps-preserved
loop-steps-preserved c =
    none_more c.args.tape.now c.loop-steps.steps c.in-Some.note c.loop-steps.invariant c.in-Some.ensures.tells
    (sym c.is_lost.ensures ∙ c.if-is_lost.false)
