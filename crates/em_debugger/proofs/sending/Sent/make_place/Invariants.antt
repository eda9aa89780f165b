use Rattle.std.proofs.Common.{◌-◌, length}
use Rattle.em_debugger.specs.Sending.{StaysSent}
use Rattle.em_debugger.proofs.sending.Sent.make_place.Given as goal

-- of no line another frame is kept
abbrev pub invariant-loop-self : goal.invariant-loop-self
invariant-loop-self l = StaysSent l.fn.self.firsts.items l.self.firsts.items

abbrev pub decreases-loop-self : goal.decreases-loop-self
decreases-loop-self l = l.number - length l.self.firsts.items
