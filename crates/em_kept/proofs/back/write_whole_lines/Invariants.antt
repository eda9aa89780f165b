use Rattle.std.proofs.Common.{◌-◌}
use Rattle.em_text.proofs.WritingLemmas.{WroteFront}
use Rattle.em_kept.specs.Source.{plain}
use Rattle.em_kept.specs.Kept.{whole_text}
use Rattle.em_kept.proofs.back.write_whole_lines.Given as goal

-- what is still to come
abbrev pub invariant-loop-done : goal.invariant-loop-done
invariant-loop-done g l =
    let contents = g.W.Write.contents in
    WroteFront (contents l.fn.writer) (contents l.writer) (whole_text (l.count - l._done) (plain l.source)) (whole_text l.count (plain l.source))
