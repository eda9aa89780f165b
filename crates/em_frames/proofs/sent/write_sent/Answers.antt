use Rattle.std.proofs.Common.{◌∙◌, ◌<◌, ◌++◌, [], length, take, ap, arith, append_assoc, sym}
use Rattle.std.specs.Prelude.{slice_get, slice_index, unwrap_or}
use Rattle.em_text.proofs.WritingLemmas.{Appends-more}
use Rattle.em_pcap.specs.Writing.{header_text}
use Rattle.em_frames.specs.Sent.{frame_text, frames_text}
use Rattle.em_frames.proofs.SentLaws.{frames_more}
use Rattle.em_frames.proofs.sent.write_sent.Goals as goal

pub loop-index-preserved : goal.loop-index-preserved
loop-index-preserved g c =
    let wire = c.args.machine.now.present.wire in
    let times = c.args.times.now in
    let k = c.loop-index.index in
    let frame = unwrap_or (slice_get wire k) [] in
    let within : k < length wire = omega (arith, c.wire_len-index-end.ensures) in
    Appends-more _ _ _ (header_text ++ frames_text times (take k wire)) (frame_text (slice_index times k) frame) _
    c.loop-index.invariant (rw c.sent_frame.ensures at c.in_ok-write_frame.ensures.writes)
    (ap (λ l. header_text ++ l) (frames_more k times wire within c.requires)
    ∙ sym (append_assoc header_text (frames_text times (take k wire)) (frame_text (slice_index times k) frame)))
