use Rattle.std.proofs.lemmas.Result.{on_ok_weaker}
use Rattle.em_step.proofs.BeforeLaws.{gathered_put_back}
use Rattle.em_step.proofs.before.Past.gathered_before.Goals as goal

pub returns-clause-before : goal.returns-clause-before
returns-clause-before c =
    on_ok_weaker c.gather_told.result
    (gathered_put_back c.args.self.now c.args.last.now c.args.gathered.now.items c.gather_told.new.gathered.items)
    c.gather_told.ensures
