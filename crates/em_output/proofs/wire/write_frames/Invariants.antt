use Rattle.std.proofs.Common.{drop}
use Rattle.em_text.proofs.WritingLemmas.{WroteFront}
use Rattle.em_output.specs.Wire.{frames_text}
use Rattle.em_output.proofs.wire.write_frames.Given as goal

-- the lines of the frames from here on are still to come
abbrev pub invariant-loop-index : goal.invariant-loop-index
invariant-loop-index g l =
    let contents = g.W.Write.contents in
    let frames = l.machine.present.wire in
    WroteFront (contents l.fn.writer) (contents l.writer) (frames_text (drop l.index frames)) (frames_text frames)
