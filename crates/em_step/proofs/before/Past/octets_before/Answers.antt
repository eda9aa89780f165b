use Rattle.em_step.proofs.BeforeLaws.{window_put_back}
use Rattle.em_step.proofs.before.Past.octets_before.Goals as goal

pub returns-clause-before : goal.returns-clause-before
returns-clause-before c =
    window_put_back c.args.self.now c.args.addr c.args.window.now c.lay_over.new.window c.lay_over.ensures
