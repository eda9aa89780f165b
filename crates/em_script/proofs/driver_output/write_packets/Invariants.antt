use Rattle.std.proofs.Common.{◌++◌}
use Rattle.em_text.proofs.WritingLemmas.{WroteFront}
use Rattle.em_turn.specs.Planned.{lists}
use Rattle.em_output.specs.Wire.{frames_text}
use Rattle.em_script.proofs.driver_output.write_packets.Given as goal

-- the lines of the packets that are left are still to come
abbrev pub invariant-loop-packet : goal.invariant-loop-packet
invariant-loop-packet g l =
    let contents = g.W.Write.contents in
    let rest = l.packet-iterator.head.now ++ l.packet-iterator.wrapped.now in
    WroteFront (contents l.fn.writer) (contents l.writer) (frames_text (lists rest))
    (frames_text (lists l.fn.packets.items))
