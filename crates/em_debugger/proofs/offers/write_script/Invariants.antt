use Rattle.std.specs.Prelude.{take}
use Rattle.std.specs.Io.KnownBytes.{Appends}
use Rattle.em_turn.specs.Planned.{lists}
use Rattle.em_debugger.specs.Offers.{offered_script}
use Rattle.em_debugger.proofs.offers.write_script.Given as goal

-- so many lines were written
abbrev pub invariant-loop-index : goal.invariant-loop-index
invariant-loop-index g l =
    Appends (g.W.Write.contents l.fn.writer) (g.W.Write.contents l.writer)
    (offered_script l.has_engines (take l.index (lists l.lines.items)))
