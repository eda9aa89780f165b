-- What stays where memory is refused to a line.
use Rattle.std.proofs.Common.{◌≡◌, ◌⊎◌, ◌∙◌, ℕ, List, [], sym, ap, subst, inl, inr}
use Rattle.std.specs.Prelude.{Option, Some, Err}
use Rattle.em_text.specs.declared.writer.WriteFailed.{WriteFailed}
use Rattle.em_script.specs.declared.fault.BenchFault.{BenchFault}
use Rattle.em_script.specs.declared.fault.BenchFault.TheVariants as fault
use Rattle.em_tape.specs.Moves.{Leaves, Plays}
use Rattle.em_tape.specs.Tape.{Tape}
use Rattle.em_tape.specs.Texts.{texts}
use Rattle.em_debugger.specs.Came.{came_of}
use Rattle.em_debugger.specs.declared.debugger.Debugger.{Debugger}
use Rattle.em_debugger.specs.Engines.{PutsNone}
use Rattle.em_debugger.specs.Performing.{IsWhole, KeepsBeside, StaysAt, Unperformed, is_whole, unnoted, unplayed}
use Rattle.em_debugger.specs.Place.{line_here}
use Rattle.em_debugger.specs.Sending.{first_of}
use Rattle.em_debugger.specs.Told.{told_of}
use Rattle.em_debugger.specs.Warnings.{said_behind}

abbrev whole_at : Tape → Tape → Tape
whole_at old new = record old { whole = line_here old; back = 0; session = new.session }

-- the line at the place is whole, and no more was done
stays_whole : (old before new : Tape) → before ≡ whole_at old before → Leaves before new → StaysAt old new
stays_whole old before new e (inl same) = is_whole (subst (λ t. t ≡ whole_at old t) (sym same) e)
stays_whole old before new e (inr moved) =
    is_whole (moved ∙ ap (λ (t : Tape). record t { back = 0; session = new.session }) e)

-- the line was not performed, or its answer was refused memory
pub unplayed_by : (old new : Debugger) (before : Tape) (text text' : Option (List ℕ)) (why : BenchFault)
    → IsWhole old.tape before → text ≡ Some [] → KeepsBeside old new
    → (why ≡ fault.Write) ⊎ (why ≡ fault.Memory)
    → (why ≡ fault.Write → (failed : WriteFailed) × Plays before new.tape text text' (Err failed))
    → (why ≡ fault.Memory → Leaves before new.tape × (text' ≡ text)) → Unperformed old new
unplayed_by old new before text text' why whole none keeps (inl is) wrote left =
    let played = wrote is in
    unnoted keeps (record {
      before = before;
      whole = whole;
      text = text';
      replied = Err played.0;
      plays = subst (λ t. Plays before new.tape t text' (Err played.0)) none played.1;
    })
unplayed_by old new before text text' why whole none keeps (inr is) wrote left =
    unplayed keeps (stays_whole old.tape before new.tape whole.tape (left is).0)

-- all but what lines expect and their marks is the same, and beside each line the same stands
pub keeps_beside : (old new : Debugger) → PutsNone old new → KeepsBeside old new
keeps_beside old new none = let e = none.rest in record {
  told = λ line. ap (λ (d : Debugger). told_of line (texts d.told.answers.items)) e;
  came = λ line. ap (λ (d : Debugger). came_of line d.came.outcomes.items) e;
  wanted = λ line. ap (told_of line) none.wanted;
  marks = λ line. ap (told_of line) none.marks;
  sent = λ line. ap (λ (d : Debugger). first_of line d.sent.firsts.items) e;
  warnings = λ k. ap (λ (d : Debugger). said_behind k d.warnings.lines.items) e;
  settings = ap (λ (d : Debugger). d.settings) e;
  asked = ap (λ (d : Debugger). d.asked) e;
  warns = ap (λ (d : Debugger). d.warns) e;
  score = ap (λ (d : Debugger). d.score) e;
  engines = ap (λ (d : Debugger). d.engines) e;
  offered = ap (λ (d : Debugger). d.offered) e;
  bookmarks = ap (λ (d : Debugger). d.bookmarks) e;
}
