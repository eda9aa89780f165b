use Rattle.std.proofs.Common.{◌-◌, arith}
use Rattle.em_debugger.proofs.ToldLaws.{puts_set}
use Rattle.em_debugger.proofs.told.Told.put.Goals as goal

pub returns-clause-ok : goal.returns-clause-ok
returns-clause-ok c =
    puts_set _ _ _ c.args.number (c.args.number - 1) c.in_ok-text.text c.args.text.now c.make_ready.ensures.stay
    (omega arith) c.in_ok-text.ensures.place c.in_ok-text.ensures.text c.set.ensures
