use Rattle.std.proofs.Common.{◌++◌, ap, sym}
use Rattle.std.proofs.lemmas.Result.{MatchResult-from_err}
use Rattle.em_text.proofs.WritingLemmas.{WritesPart-front, Writes-more}
use Rattle.em_output.specs.Wire.{count_text, frames_text}
use Rattle.em_output.proofs.wire.write_wire.Goals as goal

pub returns-in_err-write_number_line : goal.returns-in_err-write_number_line
returns-in_err-write_number_line g c =
    let frames = frames_text c.args.machine.now.present.wire in
    record {
      writes = MatchResult-from_err _ _ _ c.from_residual.ensures.0 (λ _.
          WritesPart-front frames c.in_err-write_number_line.ensures.writes
          (ap (λ n. count_text n ++ frames) (sym c.wire_len.ensures)));
    }

pub returns : goal.returns
returns g c =
    let frames = frames_text c.args.machine.now.present.wire in
    record {
      writes = Writes-more _ _ _ c.write_frames.result (count_text c.wire_len.result) frames _
          c.in_ok-write_number_line.ensures.writes c.write_frames.ensures.writes
          (ap (λ n. count_text n ++ frames) (sym c.wire_len.ensures));
    }
