use Rattle.std.proofs.Common.{arith}
use Rattle.em_tape.proofs.NotedLaws.{room_of}
use Rattle.em_tape.proofs.tape.Tape.name_of.Goals as goal

pub name_of-requires-clause-room : goal.name_of-requires-clause-room
name_of-requires-clause-room c = λ k.
    let tape = c.self.invariant.tape in
    let room = room_of c.self.inside.did.items c.as_slice.result.now c.as_slice.ensures.value tape.counts
    (omega (arith, tape.performed, tape.few)) k in
    omega (arith, room)
