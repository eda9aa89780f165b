use Rattle.std.proofs.Common.{◌≡◌, ◌<◌, length}
use Rattle.em_journal.specs.declared.settings.Settings.{Settings}
use Rattle.em_tape.specs.Tape.{Tape, event_of}
use Rattle.em_debugger.specs.declared.accesses.Newest.{Newest}
use Rattle.em_debugger.specs.Accesses.{IsNewest}
use Rattle.em_debugger.specs.Deeper.{IsAgain}
use Rattle.em_debugger.proofs.accesses.newest_deeper.Given as goal

-- the tape has the same lines, which did the same, its journal holds the newest event, and what a search on it gives, the
-- whole search gives
abbrev pub invariant-loop-noted : goal.invariant-loop-noted
invariant-loop-noted l =
    record {
      kept : l.deep ≡ record l.fn.deep { whole = l.deep.whole; back = l.deep.back; session = l.deep.session };
      held : 0 < length l.deep.session.machine.past;
      goes_on : (settings : Settings) (tape : Tape) → IsAgain settings tape l.fn.deep → (given : Newest)
          → IsNewest settings tape l.sort l.deep given → IsNewest settings tape l.sort l.fn.deep given;
    }

abbrev pub decreases-loop-noted : goal.decreases-loop-noted
decreases-loop-noted l = event_of l.deep
