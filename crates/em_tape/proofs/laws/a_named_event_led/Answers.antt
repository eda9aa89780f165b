use Rattle.em_tape.proofs.LedLaws.{has_led, is_told, named_once}
use Rattle.em_tape.proofs.laws.a_named_event_led.Goals as goal

pub returns-clause-led : goal.returns-clause-led
returns-clause-led c = has_led

pub returns-clause-told : goal.returns-clause-told
returns-clause-told c = is_told

pub returns-clause-once : goal.returns-clause-once
returns-clause-once c = named_once
