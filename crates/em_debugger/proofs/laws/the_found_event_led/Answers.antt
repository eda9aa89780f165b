use Rattle.em_debugger.proofs.LedLaws.{found_led}
use Rattle.em_debugger.proofs.laws.the_found_event_led.Goals as goal

pub returns : goal.returns
returns c = found_led
