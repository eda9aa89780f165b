use Rattle.em_turn.specs.Planned.{lists}
use Rattle.em_script.proofs.CallingLemmas.{sent}
use Rattle.em_script.proofs.calling.send.Goals as goal

pub returns-clause-course : goal.returns-clause-course
returns-clause-course g c =
    let did = rw (c.requires) at c.tx_batch-result.ensures.course in
    rw (c.events_of.ensures, c.clear.ensures.items) (sent _ _ (lists c.args.packets.items) _ _ did)
