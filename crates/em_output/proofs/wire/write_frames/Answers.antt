use Rattle.std.proofs.Common.{arith}
use Rattle.std.proofs.lemmas.Result.{MatchResult-from_err}
use Rattle.em_text.specs.Writer.{hex_line_text}
use Rattle.em_text.proofs.WritingLemmas.{WroteFront-none, WroteFront-more, WroteFront-part, WroteFront-all}
use Rattle.em_output.specs.Wire.{frames_text}
use Rattle.em_output.proofs.WireLemmas.{frames_text-next, frames_text-none}
use Rattle.em_output.proofs.wire.write_frames.Goals as goal

pub loop-index-init : goal.loop-index-init
loop-index-init g c = WroteFront-none _ (frames_text c.args.machine.now.present.wire)

pub returns-in_err-write_octets_line : goal.returns-in_err-write_octets_line
returns-in_err-write_octets_line g c =
    let next = frames_text-next c.args.machine.now.present.wire c.loop-index.index c.in-Some.frame.now (omega arith)
    c.in-Some.ensures in
    record {
      writes = MatchResult-from_err _ _ _ c.from_residual.ensures.0 (λ _.
          WroteFront-part _ c.loop-index.invariant next c.in_err-write_octets_line.ensures.writes);
    }

pub loop-index-preserved : goal.loop-index-preserved
loop-index-preserved g c =
    let next = frames_text-next c.args.machine.now.present.wire c.loop-index.index c.in-Some.frame.now (omega arith)
    c.in-Some.ensures in
    WroteFront-more (hex_line_text c.in-Some.frame.now) c.loop-index.invariant next
    c.in_ok-write_octets_line.ensures.writes

pub returns : goal.returns
returns g c =
    let last = frames_text-none c.args.machine.now.present.wire c.loop-index.index (omega arith) in
    record { writes = WroteFront-all c.loop-index.invariant last }
