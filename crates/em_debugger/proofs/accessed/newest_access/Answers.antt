use Rattle.std.proofs.Common.{sym, ◌∙◌, arith}
use Rattle.em_debugger.proofs.AccessedLaws.{none_more}
use Rattle.em_debugger.proofs.accessed.newest_access.Goals as goal

pub loop-steps-preserved : goal.loop-steps-preserved
loop-steps-preserved c = record {
  within = omega (arith, c.loop-steps.invariant.within);
  none = none_more c.args.tape.now c.args.watch c.args.back c.loop-steps.steps c.in-Some.note
      c.loop-steps.invariant.none c.in-Some.ensures.tells (sym c.is_access.ensures ∙ c.if-is_access.false);
}
