use Rattle.std.proofs.Common.{length}
use Rattle.em_debugger.proofs.ListingLaws.{WroteBelow}
use Rattle.em_debugger.proofs.listing.write_all_below.Given as goal

-- the lines so far
abbrev pub invariant-loop-rest : goal.invariant-loop-rest
invariant-loop-rest g l =
    let contents = g.W.Write.contents in
    WroteBelow (contents l.fn.writer) (contents l.writer) l.answer l.rest

abbrev pub decreases-loop-rest : goal.decreases-loop-rest
decreases-loop-rest g l = length l.rest
