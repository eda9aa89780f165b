use Rattle.std.proofs.Common.{◌≡◌, ◌∙◌, ◌-◌, Some, arith, subst, sym, ap}
use Rattle.std.specs.Prelude.{slice_get}
use Rattle.std.specs.Option.{option_map}
use Rattle.em_recording.specs.Wire.{HasSent}
use Rattle.em_recording.proofs.GatheredLaws.{last_none, last_some}
use Rattle.em_recording.proofs.WireLaws.{is_there, sent_within}
use Rattle.em_recording.proofs.sending.last_sent.Goals as goal

pub unreachable-requires : goal.unreachable-requires
unreachable-requires c =
    let v = c.args.machine.now in
    let within = sent_within v c.args.k c.args.sent c.requires.there c.requires.sent in
    is_there v.present.wire (c.args.sent - 1) (omega (arith, within))
    (sym c.wire_frame.ensures ∙ ap (option_map (λ frame. frame.now)) c.in-None.is)

pub returns-then-sent-eq0 : goal.returns-then-sent-eq0
returns-then-sent-eq0 c =
    let v = c.args.machine.now in
    record { last = last_none v c.args.k (subst (HasSent v c.args.k) c.if-sent-eq0.true c.requires.sent) }

pub returns : goal.returns
returns c =
    let v = c.args.machine.now in
    let found : slice_get v.present.wire (c.args.sent - 1) ≡ Some c.in-Some.frame.now
    = sym c.wire_frame.ensures ∙ ap (option_map (λ frame. frame.now)) c.in-Some.is in
    record {
      last = last_some v c.args.k c.args.sent c.in-Some.frame.now (omega arith) c.requires.sent found;
    }
