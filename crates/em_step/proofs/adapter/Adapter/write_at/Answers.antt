use Rattle.em_step.proofs.adapter.Adapter.write_at.Goals as goal

pub returns-in_ok-access_none-in-None-clause-ok : goal.returns-in_ok-access_none-in-None-clause-ok
returns-in_ok-access_none-in-None-clause-ok c = c.in_ok-access_none-in-None.ensures.write c.args.value
