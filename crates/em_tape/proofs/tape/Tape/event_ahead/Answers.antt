use Rattle.std.proofs.Common.{arith}
use Rattle.em_tape.proofs.tape.Tape.event_ahead.Goals as goal

pub end_of-last-requires : goal.end_of-last-requires
end_of-last-requires c = omega (arith, c.machine-machine.ensures.tape.known, c.line-line.ensures.within)
