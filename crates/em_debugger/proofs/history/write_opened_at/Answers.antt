use Rattle.std.proofs.Common.{◌≡◌, ◌-◌, arith}
use Rattle.em_tape.specs.Tape.{event_of}
use Rattle.em_debugger.proofs.HistoryLaws.{opened_at}
use Rattle.em_debugger.proofs.history.write_opened_at.Goals as goal

pub returns : goal.returns
returns g c =
    let tape = c.args.tape.now in
    let is : c.saturating_sub.result ≡ event_of tape - c.args.back =
    omega (arith, c.saturating_sub.ensures, c.event.ensures) in
    record {
      ok = opened_at _ _ c.write_opened_event.result tape c.args.here c.args.back c.saturating_sub.result c.in-Some.note
          c.in-Some.ensures.tells is c.write_opened_event.ensures.writes;
    }
