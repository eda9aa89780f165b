use Rattle.em_script.proofs.ReplyLemmas.{back_given, empty_given}
use Rattle.em_script.proofs.reply.back.Goals as goal

pub returns-in-Ok : goal.returns-in-Ok
returns-in-Ok g c =
    let did = c.in-Ok.ensures.ok in
    back_given (g.M.Acts.shows c.args.machine.now) did.0 record { prints = c.write_done.ensures; machine = did.1 }

pub returns-in-Err : goal.returns-in-Err
returns-in-Err g c =
    let did = c.in-Err.ensures.empty in
    empty_given (g.M.Acts.shows c.args.machine.now) did.0 record { prints = c.write_empty.ensures; machine = did.1 }
