use Rattle.std.proofs.Common.{◌∙◌, length, ap, sym, arith}
use Rattle.std.proofs.lemmas.List.{take_all}
use Rattle.em_script.specs.Session.{Session}
use Rattle.em_tape.specs.Known.{events_in}
use Rattle.em_tape.specs.Tape.{taken_back}
use Rattle.em_tape.proofs.AgainLaws.{along}
use Rattle.em_tape.proofs.TapeLaws.{past_back}
use Rattle.em_tape.proofs.again.take_back.Goals as goal

pub returns-in-Some-clause-there : goal.returns-in-Some-clause-there
returns-in-Some-clause-there c = λ gone all first does is.
    let did = c.args.known.now in
    let events = c.in-Some.events in
    c.back_by-taken.ensures.session ∙ ap (taken_back events) is
    ∙ along (length did) events did all first does (omega arith)
    (ap events_in (take_all (length did) did (omega arith)) ∙ sym c.events_of.ensures ∙ c.in-Some.is)

pub returns-in-Some-clause-room : goal.returns-in-Some-clause-room
returns-in-Some-clause-room c =
    let left = past_back c.in-Some.events c.args.session.now in
    omega (arith, left, c.requires.room, ap (λ (s : Session). length s.machine.past) c.back_by-taken.ensures.session)
