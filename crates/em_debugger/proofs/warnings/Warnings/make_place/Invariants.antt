use Rattle.std.proofs.Common.{◌≡◌, ◌-◌, length}
use Rattle.em_debugger.specs.Warnings.{StaySaid}
use Rattle.em_debugger.proofs.warnings.Warnings.make_place.Given as goal

-- beside no line stands another, and the room stays
abbrev pub invariant-loop-self : goal.invariant-loop-self
invariant-loop-self l =
    record {
      stay : StaySaid l.fn.self.lines.items l.self.lines.items;
      room : l.self.room ≡ l.fn.self.room;
    }

abbrev pub decreases-loop-self : goal.decreases-loop-self
decreases-loop-self l = l.number - length l.self.lines.items
