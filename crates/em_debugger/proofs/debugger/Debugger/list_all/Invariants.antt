use Rattle.em_debugger.specs.Listing.{ListsNext}
use Rattle.em_debugger.proofs.NextLaws.{ToldBy}
use Rattle.em_debugger.proofs.PlayedLaws.{to_do}
use Rattle.em_debugger.proofs.debugger.Debugger.list_all.Given as goal

-- lines were performed and listed
abbrev pub invariant-ahead : goal.invariant-ahead
invariant-ahead g l =
    let contents = g.W.Write.contents in
    ToldBy ListsNext l.fn.self l.self (contents l.fn.writer) (contents l.writer)

abbrev pub decreases-ahead : goal.decreases-ahead
decreases-ahead g l = to_do l.self
