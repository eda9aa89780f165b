use Rattle.std.proofs.Common.{◌≡◌, ◌<◌, length}
use Rattle.em_journal.specs.declared.settings.Settings.{Settings}
use Rattle.em_tape.specs.Tape.{Tape, event_of}
use Rattle.em_debugger.specs.declared.search.Sought.{Sought}
use Rattle.em_debugger.specs.Deeper.{IsAgain}
use Rattle.em_debugger.specs.Search.{Seeks}
use Rattle.em_debugger.proofs.search.in_deeper.Given as goal

-- the tape has the same lines, which did the same, its journal holds the newest event, and what a search on it gives, the
-- whole search gives
abbrev pub invariant-loop-found : goal.invariant-loop-found
invariant-loop-found l =
    record {
      kept : l.deep ≡ record l.fn.deep { whole = l.deep.whole; back = l.deep.back; session = l.deep.session };
      held : 0 < length l.deep.session.machine.past;
      goes_on : (settings : Settings) (tape : Tape) → IsAgain settings tape l.fn.deep → (s : Sought)
          → Seeks settings tape l.watch l.deep 0 s → Seeks settings tape l.watch l.fn.deep 0 s;
    }

abbrev pub decreases-loop-found : goal.decreases-loop-found
decreases-loop-found l = event_of l.deep
