use Rattle.std.proofs.Common.{◌≡◌, ◌∙◌, ◌-◌, Bool, Some, arith, subst, sym, ap}
use Rattle.std.specs.Prelude.{slice_get}
use Rattle.std.specs.Option.{option_map}
use Rattle.em_recording.specs.Wire.{SentAt}
use Rattle.em_recording.proofs.WireLaws.{is_there, sent_within, some_sent, the_frame}
use Rattle.em_recording.proofs.effects.frame_of.Goals as goal

pub overflow_sub-sent : goal.overflow_sub-sent
overflow_sub-sent c =
    let v = c.args.machine.now in
    let k = c.args.back - 1 in
    let came = subst (λ (b : Bool). SentAt v k b) c.if-not-has_sent.false c.has_sent.ensures in
    let any = some_sent v k c.args.sent (omega arith) c.requires.sent came in
    omega (arith, any)

pub unreachable-requires : goal.unreachable-requires
unreachable-requires c =
    let v = c.args.machine.now in
    let k = c.args.back - 1 in
    let count = c.args.sent in
    let came = subst (λ (b : Bool). SentAt v k b) c.if-not-has_sent.false c.has_sent.ensures in
    let any = some_sent v k count (omega arith) c.requires.sent came in
    let within = sent_within v k count (omega arith) c.requires.sent in
    is_there v.present.wire (count - 1) (omega (arith, any, within))
    (sym c.wire_frame.ensures ∙ ap (option_map (λ frame. frame.now)) c.in-None.is)

pub returns : goal.returns
returns c =
    let v = c.args.machine.now in
    let k = c.args.back - 1 in
    let count = c.args.sent in
    let came = subst (λ (b : Bool). SentAt v k b) c.if-not-has_sent.false c.has_sent.ensures in
    let any = some_sent v k count (omega arith) c.requires.sent came in
    let within = sent_within v k count (omega arith) c.requires.sent in
    let found : slice_get v.present.wire (count - 1) ≡ Some c.in-Some.frame.now
    = sym c.wire_frame.ensures ∙ ap (option_map (λ frame. frame.now)) c.in-Some.is in
    let copied : slice_get v.present.wire (count - 1) ≡ Some c.in_ok-copied-in-Some.field-0.items
    = found ∙ ap Some (sym c.in_ok-copied-in-Some.ensures) in
    record {
      ok = the_frame v c.args.back count c.in_ok-copied-in-Some.field-0.items (omega arith) (omega (arith, any))
          c.requires.sent came copied within;
    }
