use Rattle.std.proofs.Common.{◌-◌, length}
use Rattle.em_text.proofs.WritingLemmas.{WroteFront}
use Rattle.em_kept.specs.Source.{shown_from}
use Rattle.em_kept.proofs.source.write_shown.Given as goal

-- what is still to come
abbrev pub invariant-loop-at : goal.invariant-loop-at
invariant-loop-at g l =
    let contents = g.W.Write.contents in
    WroteFront (contents l.fn.writer) (contents l.writer) (shown_from l.name l.at (length l.name - l.at)) (shown_from l.name 0 (length l.name))
