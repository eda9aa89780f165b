use Rattle.std.proofs.Common.{◌≡◌, ◌<◌, ◌^◌, true, length}
use Rattle.em_tape.specs.Texts.{texts}
use Rattle.em_tape.specs.Known.{IsKnown}
use Rattle.em_tape.proofs.playing.replay.Given as goal

-- the lines so far were played, and it is known what each did
abbrev pub invariant-loop-line : goal.invariant-loop-line
invariant-loop-line l =
    record {
      known : IsKnown l.fn.session (texts l.lines) l.did true l.known.items l.line-index 0 l.session;
      all : length l.known.items ≡ l.line-index;
      number : l.number ≡ l.line-index;
      room : length l.session.machine.past < 2 ^ 64;
    }
