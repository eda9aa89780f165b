use Rattle.std.proofs.Common.{◌≡◌, ◌∙◌, false, true, sym, ap}
use Rattle.em_script.specs.Seat.{session_of}
use Rattle.em_script.proofs.ReplyLemmas.{obeyed}
use Rattle.em_script.proofs.SeatLemmas.{session_from}
use Rattle.em_script.proofs.reply.obey.Goals as goal
use Rattle.em_script.proofs.reply.obey.Goals.{in-Bare, in-Driven}

pub returns : goal.returns
returns g c = λ number.
    let planned = c.session.inside.planned in
    let events = c.session.inside.events in
    elim c.match-session.branch [
      | in-Bare w ↦
          let first = session_from w.in-Bare.turns false planned events in
          let begins : c.args.session.now ≡ first =
          sym c.session.view_is ∙ ap (λ seat. session_of seat planned events) w.in-Bare.is in
          let did = rw (w.machine_mut.ensures.value) at w.perform.ensures in
          rw (w.session-inside-is, w.result-is, w.writer-is, begins)
          (obeyed number first (g.M.Acts.shows w.perform.new.machine) did)
      | in-Driven w ↦
          let first = session_from w.in-Driven.driver.bus true planned events in
          let begins : c.args.session.now ≡ first =
          sym c.session.view_is ∙ ap (λ seat. session_of seat planned events) w.in-Driven.is in
          let did = rw (w.machine_mut-in-Driven.ensures.value, w.bus.ensures.value) at w.perform-in-Driven.ensures in
          rw (w.session-inside-is, w.result-is, w.writer-is, w.bus.ensures.value, begins)
          (obeyed number first (g.M.Acts.shows w.perform-in-Driven.new.machine) did)
    ]
