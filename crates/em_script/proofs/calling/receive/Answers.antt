use Rattle.em_script.proofs.CallingLemmas.{received}
use Rattle.em_script.proofs.calling.receive.Goals as goal

pub returns-clause-course : goal.returns-clause-course
returns-clause-course g c =
    let did = rw (c.requires.layout, c.requires.empty) at c.rx_batch-result.ensures.course in
    rw (c.events_of.ensures) (received _ _ c.args.most _ _ did)
