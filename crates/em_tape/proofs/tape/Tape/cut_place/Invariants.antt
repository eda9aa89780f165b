use Rattle.std.proofs.Common.{◌≡◌, ◌+◌, ◌*◌, ◌<◌, ◌≤◌, ◌^◌, take, drop}
use Rattle.std.specs.Prelude.{All}
use Rattle.em_line.specs.Grammar.{parsed_line}
use Rattle.em_named.specs.Names.{names}
use Rattle.em_named.specs.Place.{kept_of}
use Rattle.em_tape.specs.Kind.{LeavesDriver}
use Rattle.em_tape.proofs.tape.Tape.cut_place.Given as goal

-- the same place, with fewer lines
abbrev pub invariant-loop-line : goal.invariant-loop-line
invariant-loop-line l =
    record {
      within : l.line ≤ l.self.whole;
      deep : l.depth + l.line * 2 ^ 32 < 2 ^ 64;
      place : kept_of (take l.line l.self.did) l.depth ≡ kept_of (take l.self.whole l.self.did) l.self.back;
      stands : drop l.depth (names (take l.line l.self.did))
          ≡ drop l.self.back (names (take l.self.whole l.self.did));
      leave : All (λ text. LeavesDriver (parsed_line text)) (drop l.line (take l.self.whole l.self.lines));
    }

abbrev pub decreases-loop-line : goal.decreases-loop-line
decreases-loop-line l = l.line
