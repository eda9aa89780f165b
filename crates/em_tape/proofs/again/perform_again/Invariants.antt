use Rattle.std.proofs.Common.{◌≡◌, ◌<◌, ◌≤◌, ◌-◌, ◌^◌, List, Some, length, take}
use Rattle.em_tape.specs.Texts.{texts}
use Rattle.em_script.specs.PlayedLine.{PlayedLine, after_all}
use Rattle.em_tape.specs.Known.{AreDone, events_in}
use Rattle.em_tape.proofs.again.perform_again.Given as goal

-- the lines so far did again what they did
abbrev pub invariant-loop-done : goal.invariant-loop-done
invariant-loop-done l =
    record {
      within : l.done ≤ length l.known;
      few : l.events ≤ l.done;
      events : events_in (take l.done l.known) ≡ Some l.events;
      here : (all : List PlayedLine) → AreDone all l.known (texts l.lines) l.fn.session
          → l.session ≡ after_all (take l.done all) l.fn.session;
      room : length l.session.machine.past < 2 ^ 64;
    }

abbrev pub decreases-loop-done : goal.decreases-loop-done
decreases-loop-done l = length l.known - l.done
