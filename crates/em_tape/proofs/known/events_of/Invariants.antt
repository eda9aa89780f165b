use Rattle.std.proofs.Common.{◌≡◌, ◌≤◌, drop}
use Rattle.em_tape.specs.Known.{events_in}
use Rattle.em_tape.proofs.AgainLaws.{plus}
use Rattle.em_tape.proofs.known.events_of.Given as goal

-- the events so far, and those to come
abbrev pub invariant-loop-one : goal.invariant-loop-one
invariant-loop-one l =
    record {
      all : plus l.events (events_in (drop l.one-index l.known)) ≡ events_in l.known;
      few : l.events ≤ l.one-index;
    }
