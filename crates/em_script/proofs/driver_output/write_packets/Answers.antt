use Rattle.std.proofs.Common.{◌≡◌, ◌++◌, [], ap}
use Rattle.std.proofs.lemmas.List.{nil_from_length}
use Rattle.std.proofs.lemmas.Result.{MatchResult-from_err}
use Rattle.em_text.specs.Writer.{hex_line_text}
use Rattle.em_text.proofs.WritingLemmas.{WroteFront-none, WroteFront-more, WroteFront-part, WroteFront-all}
use Rattle.em_turn.specs.Planned.{lists}
use Rattle.em_output.specs.Wire.{frames_text}
use Rattle.em_script.proofs.driver_output.write_packets.Goals as goal

pub loop-packet-init : goal.loop-packet-init
loop-packet-init g c =
    let it = c.into_iter-packet-iterator.result in
    let gives : it.head.now ++ it.wrapped.now ≡ c.args.packets.now.items =
    c.into_iter-packet-iterator.ensures.into_iter_gives.0 in
    rw gives (WroteFront-none _ (frames_text (lists c.args.packets.now.items)))

pub loop-packet-preserved : goal.loop-packet-preserved
loop-packet-preserved g c =
    WroteFront-more (hex_line_text c.in-Some.packet.now.items) c.loop-packet.invariant
    (ap (λ rest. frames_text (lists rest)) c.in-Some.ensures.steps)
    (rw (c.deref.ensures.value) at c.in_ok-write_octets_line.ensures.writes)

pub returns-in_err-write_octets_line : goal.returns-in_err-write_octets_line
returns-in_err-write_octets_line g c = record {
  writes = MatchResult-from_err _ _ _ c.from_residual.ensures.0 (λ _.
      WroteFront-part _ c.loop-packet.invariant (ap (λ rest. frames_text (lists rest)) c.in-Some.ensures.steps)
      (rw (c.deref.ensures.value) at c.in_err-write_octets_line.ensures.writes));
}

pub returns : goal.returns
returns g c =
    let none : c.loop-packet.packet-iterator.head.now ++ c.loop-packet.packet-iterator.wrapped.now ≡ [] =
    nil_from_length _ c.in-None.ensures.steps.0 in
    record { writes = WroteFront-all c.loop-packet.invariant (ap (λ rest. frames_text (lists rest)) none) }
