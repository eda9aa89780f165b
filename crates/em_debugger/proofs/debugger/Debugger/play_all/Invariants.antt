use Rattle.em_debugger.proofs.PlayedLaws.{PlaysSo, to_do}
use Rattle.em_debugger.proofs.debugger.Debugger.play_all.Given as goal

-- so many lines were played
abbrev pub invariant-ahead : goal.invariant-ahead
invariant-ahead l = PlaysSo l.fn.self l.self l.played

abbrev pub decreases-ahead : goal.decreases-ahead
decreases-ahead l = to_do l.self
