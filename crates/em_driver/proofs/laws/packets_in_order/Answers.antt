use Rattle.em_driver.proofs.order.Spans.{call_span, event_span, handed_prefix, sent_prefix, wire_grows, started_prefix}
use Rattle.em_driver.proofs.laws.packets_in_order.Goals as goal

pub returns-clause-calls : goal.returns-clause-calls
returns-clause-calls c = call_span

pub returns-clause-events : goal.returns-clause-events
returns-clause-events c = event_span

pub returns-clause-received : goal.returns-clause-received
returns-clause-received c = handed_prefix

pub returns-clause-sent : goal.returns-clause-sent
returns-clause-sent c = sent_prefix

pub returns-clause-wire : goal.returns-clause-wire
returns-clause-wire c = wire_grows

pub returns-clause-started : goal.returns-clause-started
returns-clause-started c = started_prefix
