use Rattle.em_watch.proofs.OctetLaws.{left_to, left_to_end, place_from, place_inside}
use Rattle.em_watch.proofs.octets.next_place.Goals as goal

pub returns-clause-from : goal.returns-clause-from
returns-clause-from c =
    place_from c.args.machine.now c.args.back c.args.from c.in-Some.past c.next_octet.result
    c.in-Some.ensures.found c.next_octet.ensures.before

pub returns-clause-left : goal.returns-clause-left
returns-clause-left c =
    left_to c.args.machine.now c.args.back c.args.from c.in-Some.past c.next_octet.result
    c.requires.some c.in-Some.ensures.found c.next_octet.ensures.before

pub returns-clause-none : goal.returns-clause-none
returns-clause-none c =
    left_to_end c.args.machine.now c.args.back c.args.from c.in-Some.past c.next_octet.result
    c.requires.some c.in-Some.ensures.found c.next_octet.ensures.before

pub returns-clause-inside : goal.returns-clause-inside
returns-clause-inside c =
    place_inside c.args.machine.now c.args.back c.args.from c.in-Some.past c.next_octet.result c.memory_end-end.result
    c.memory_end-end.ensures.states c.in-Some.ensures.found c.next_octet.ensures.before
