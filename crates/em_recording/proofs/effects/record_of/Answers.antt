use Rattle.std.proofs.Common.{subst}
use Rattle.em_watch.specs.Effect.{Effect}
use Rattle.em_watch.specs.declared.watch.Watch.TheVariants.{Frames, Line, Link}
use Rattle.em_recording.specs.Effects.{AreOctetSteps, AreRegisterSteps, Does}
use Rattle.em_recording.proofs.ThingLaws.{does}
use Rattle.em_recording.proofs.RecordLaws.{is_record_of}
use Rattle.em_recording.proofs.effects.record_of.Goals as goal

pub returns : goal.returns
returns c =
    let v = c.args.machine.now in
    let back = c.args.back in
    let effect = c.what-effect.ensures in
    let registers = subst (λ (e : Effect). AreRegisterSteps e.view e.back c.in_ok-registers.registers.items) effect
    c.in_ok-registers.ensures.ok in
    let octets = subst (λ (e : Effect). AreOctetSteps e.view e.back c.in_ok-octets.octets.items) effect
    c.in_ok-octets.ensures.ok in
    let frames = subst (λ (e : Effect). Does Frames e.view e.back c.frames.result) effect
    (does Frames _ _ c.frames.result c.frames.ensures.difference c.frames.ensures.none) in
    let link = subst (λ (e : Effect). Does Link e.view e.back c.link.result) effect
    (does Link _ _ c.link.result c.link.ensures.difference c.link.ensures.none) in
    let line = subst (λ (e : Effect). Does Line e.view e.back c.line.result) effect
    (does Line _ _ c.line.result c.line.ensures.difference c.line.ensures.none) in
    record {
      ok = is_record_of v back _ (record {
        registers = registers;
        octets = octets;
        frames = (c.frames.result, frames, c.counts_of-frames.ensures);
        link = (c.link.result, link, c.bits_of-link.ensures);
        line = (c.line.result, line, c.bits_of-line.ensures);
        sent = c.in_ok-sent.ensures.ok;
        gathered = c.in_ok-gathered.ensures.ok;
      });
    }
