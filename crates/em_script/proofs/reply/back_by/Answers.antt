use Rattle.em_script.proofs.reply.back_by.Goals as goal

pub returns : goal.returns
returns g c =
    let taken = c.back_by-count.ensures in
    record { prints = rw (← taken.count) c.write_back.ensures; machine = taken.view }
