use Rattle.std.proofs.Common.{◌≡◌, sym, true, false}
use Rattle.em_tx.specs.Control.{is_still}
use Rattle.em_tx.proofs.EngineLaws.{transmit-idle, Refuses-off_memory, Refuses-refusal}
use Rattle.em_tx.proofs.engine.transmit.Goals as goal

pub returns-then-is_still-clause-ok : goal.returns-then-is_still-clause-ok
returns-then-is_still-clause-ok c =
    let none : is_still c.args.control ≡ true = cc in
    transmit-idle c.args.control _ _ none

pub returns-in_default-clause-err : goal.returns-in_default-clause-err
returns-in_default-clause-err c =
    let some : is_still c.args.control ≡ false = cc in
    Refuses-off_memory c.args.control _ _ some c.in_default.ensures.none

pub returns-in-Some-refusal_of-clause-err : goal.returns-in-Some-refusal_of-clause-err
returns-in-Some-refusal_of-clause-err c =
    let some : is_still c.args.control ≡ false = cc in
    let found = c.in-Some.found in
    Refuses-refusal c.args.control _ _ found.descriptor some c.in-Some.ensures.held c.in-Some.ensures.octets
    (sym c.in-Some-refusal_of.ensures.value)
