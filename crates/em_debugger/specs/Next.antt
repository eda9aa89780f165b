-- Performing so many lines, each shown with its answer.
use Rattle.std.specs.Prelude.{◌≡◌, ℕ, ◌≤◌, List, [], ◌++◌, length}
use Rattle.std.specs.List.{flat_map}
use Rattle.em_console.specs.Turns.{Leads}
use Rattle.em_script.specs.declared.fault.BenchFault.{BenchFault}
use Rattle.em_debugger.specs.declared.debugger.Debugger.{Debugger}
use Rattle.em_debugger.specs.declared.performing.Performed.{Performed}
use Rattle.em_debugger.specs.Performing.{PerformsNext, IsLast, ShowsPerformed, ShowsSteps, IsUnadded, Unperformed, no_line_text, fault_text}

-- a line that was performed, and what was shown of it
pub record Shown : Type 0 where
  pub performed : Performed
  pub text : List ℕ

-- the line behind the place was performed, and shown with its answer, and then the steps that engines make behind it
pub record Shows (old : Debugger) (shown : Shown) (new : Debugger) : Type 0 where
  pub between : Debugger
  pub performs : PerformsNext old between shown.performed
  pub first : List ℕ
  pub text : ShowsPerformed between shown.performed first
  pub rest : List ℕ
  pub steps : ShowsSteps (length old.tape.lines) between new rest
  pub both : shown.text ≡ first ++ rest

-- the text of each, one behind the other
abbrev pub shown_text : List Shown → List ℕ
shown_text shown = flat_map (λ s. s.text) shown

-- what came behind so many lines: nothing, where no more were asked for; or that no line lies ahead; or why the next
-- was not performed
pub data EndsBy (asked count : ℕ) (before after : Debugger) (text : List ℕ) : Type 0 where
  reached : count ≡ asked → after ≡ before → text ≡ [] → EndsBy asked count before after text
  over : IsLast before → after ≡ before → text ≡ no_line_text count → EndsBy asked count before after text
  stopped : (fault : BenchFault) → IsUnadded fault → text ≡ fault_text fault → Unperformed before after
      → EndsBy asked count before after text

-- so many lines at most were performed, one after another, and each was shown with its answer; and what came then
pub record TellsNext (asked : ℕ) (old new : Debugger) (text : List ℕ) : Type 0 where
  pub shown : List Shown
  pub few : length shown ≤ asked
  pub between : Debugger
  pub leads : Leads Shows shown old between
  pub end : List ℕ
  pub ended : EndsBy asked (length shown) between new end
  pub told : text ≡ shown_text shown ++ end
