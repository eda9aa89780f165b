use Rattle.std.proofs.Common.{ap, arith, sym}
use Rattle.em_named.specs.Numbers.{above}
use Rattle.em_tape.proofs.NotedLaws.{room_of}
use Rattle.em_tape.proofs.StandingLaws.{nil-stands}
use Rattle.em_tape.proofs.tape.Tape.behind.Goals as goal

pub returns-then-self : goal.returns-then-self
returns-then-self c =
    let inside = c.self.inside in
    let did = inside.did.items in
    rw (← c.self.view_is) (sym (ap (above c.args.event did) (nil-stands inside.whole inside.back did
    c.self.invariant.tape.known (omega (arith, c.if-self.true, c.self.invariant.end)))))

pub above-requires-clause-room : goal.above-requires-clause-room
above-requires-clause-room c =
    let tape = c.self.invariant.tape in
    room_of c.self.inside.did.items c.as_slice.result.now c.as_slice.ensures.value tape.counts
    (omega (arith, tape.performed, tape.few))
