-- What is seen of a session, by which it is known what a line did with events.
use Rattle.std.specs.Prelude.{◌≡◌, Bool, true, false, length, Option, Some, None}
use Rattle.em_line.specs.ParsedLine.{ParsedLine}
use Rattle.em_script.specs.declared.outcome.Outcome.{Outcome}
use Rattle.em_script.specs.declared.outcome.Outcome.TheVariants.{Silent, Bad, Refused}
use Rattle.em_script.specs.RefusedAt.{RefusedAt}
use Rattle.em_script.specs.Reply.{after_line}
use Rattle.em_script.specs.Session.{Session}
use Rattle.em_tape.specs.declared.did.Seen.{Seen}

-- so much was seen of a session before the line and after it
pub record IsSeen (seen : Seen) (memory : Option RefusedAt) (parsed : ParsedLine) (from : Session) : Type 0 where
  pub before : seen.before ≡ length from.machine.past
  pub after : seen.after ≡ length (after_line memory parsed from).machine.past
  pub started : seen.started ≡ from.started
  pub called : seen.called ≡ (after_line memory parsed from).events

-- whether a line that says something was done or refused; none where it says nothing
abbrev pub done_in : Outcome → Option Bool
done_in Silent = None
done_in Bad = None
done_in (Refused why) = Some false
done_in _ = Some true
