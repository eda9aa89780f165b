use Rattle.std.proofs.Common.{subst, refl, List, ℕ, ◌+◌, drop}
use Rattle.std.specs.List.{flat_map}
use Rattle.std.specs.Io.KnownBytes.{Appends}
use Rattle.std.proofs.lemmas.Result.{MatchResult-from_err}
use Rattle.em_text.proofs.WritingLemmas.{WritesPart-front, WritesPart-more}
use Rattle.em_pcap.specs.Writing.{header_text, record_text, timed}
use Rattle.em_pcap.proofs.WritingLaws.{cut_at, all_there}
use Rattle.em_pcap.proofs.writer.write_capture.Goals as goal

pub returns-in_err-write_record : goal.returns-in_err-write_record
returns-in_err-write_record g c =
    let frames = c.args.frames.now in
    let i = c.loop-frame.frame-index in
    let behind = flat_map (λ frame. record_text (timed frame)) (drop (i + 1) frames) in
    record {
      writes = MatchResult-from_err _ _ _ c.from_residual-in_err-write_record.ensures.0 (λ _.
          WritesPart-more _ c.loop-frame.invariant (WritesPart-front behind c.in_err-write_record.ensures.writes refl)
          (cut_at header_text frames i _ c.loop-frame-test.true));
    }

pub returns : goal.returns
returns g c =
    let contents = g.W.Write.contents in
    let text = all_there header_text c.args.frames.now c.loop-frame.frame-index c.loop-frame-test.false in
    let appends = λ (text : List ℕ). Appends (contents c.args.writer.now) (contents c.loop-frame.writer) text in
    record { writes = subst appends text c.loop-frame.invariant }
