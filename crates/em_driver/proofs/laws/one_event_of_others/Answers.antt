use Rattle.em_driver.proofs.order.EventsOfOthers.{others_move, queue_rests, turns_are_others, wire_rests}
use Rattle.em_driver.proofs.rings.OneTurn.{but_moves, driven_moves}
use Rattle.em_driver.proofs.laws.one_event_of_others.Goals as goal

pub returns-clause-kept : goal.returns-clause-kept
returns-clause-kept c = λ l s e r h out is. but_moves l s r.1 _ (others_move l s e r h out is)

pub returns-clause-driven : goal.returns-clause-driven
returns-clause-driven c = λ l s e r h out is. driven_moves l s r.1 _ (others_move l s e r h.but out is) h

pub returns-clause-receive : goal.returns-clause-receive
returns-clause-receive c = λ l s e r h out is. (others_move l s e r h out is).receiving.waiting

pub returns-clause-transmit : goal.returns-clause-transmit
returns-clause-transmit c = λ l s e r h out is. (others_move l s e r h out is).sending.wire

pub returns-clause-rest : goal.returns-clause-rest
returns-clause-rest c = λ l s e r h out is other.
    (wire_rests l s e r h out is other, queue_rests l s e r h out is other)

pub returns-clause-turns : goal.returns-clause-turns
returns-clause-turns c = turns_are_others
