-- Lines that are performed until something happens.
use Rattle.std.proofs.Common.{◌≡◌, ℕ, ◌+◌, ◌≤◌, subst, arith, suc, false}
use Rattle.em_debugger.specs.declared.debugger.Debugger.{Debugger}
use Rattle.em_debugger.specs.declared.performing.Performed.{Performed}
use Rattle.em_debugger.specs.declared.stops.Stop.{Stop}
use Rattle.em_debugger.specs.Performing.{PerformsNext, IsLast}
use Rattle.em_debugger.specs.Place.{line_here}
use Rattle.em_debugger.specs.Stops.{EndsBefore, EndsBehind, GoesOnBehind, Runs, RanTo, is_before, none, more}
use Rattle.em_debugger.proofs.PlayedLaws.{performs_on, to_do}
use Rattle.em_debugger.proofs.TextLaws.{is_not}

-- so many lines were performed, none of them ended the run, and so much is left to do
pub record RunsSo (s : Stop) (first now : Debugger) (lines : ℕ) : Type 0 where
  pub runs : Runs s first lines now
  pub here : line_here now.tape ≡ line_here first.tape + lines
  pub left : to_do now + lines ≡ to_do first

pub RunsSo-none : (s : Stop) (first : Debugger) → RunsSo s first first 0
RunsSo-none s first = record { runs = none; here = omega arith; left = omega arith }

pub RunsSo-more : (s : Stop) (first now after : Debugger) (lines : ℕ) (p : Performed) → RunsSo s first now lines
    → (EndsBefore s now → ⊥) → PerformsNext now after p → GoesOnBehind s now after p
    → RunsSo s first after (lines + 1)
RunsSo-more s first now after lines p h goes_on performs stays =
    let goes = performs_on now after p performs in
    let one : suc lines ≡ lines + 1 = omega arith in
    record {
      runs = subst (λ n. Runs s first n after) one (more lines now after p h.runs goes_on performs stays);
      here = omega (arith, goes.here, h.here);
      left = omega (arith, goes.left, h.left);
    }

-- a line ended the run
pub RanTo-here : (s : Stop) (first now after : Debugger) (lines : ℕ) (p : Performed) → RunsSo s first now lines
    → (EndsBefore s now → ⊥) → PerformsNext now after p → EndsBehind s now after p → RanTo s first after (lines + 1) p
RanTo-here s first now after lines p h goes_on performs ends =
    let one : lines + 1 ≡ suc lines = omega arith in
    record {
      before = now;
      others = lines;
      count = one;
      runs = h.runs;
      goes_on = goes_on;
      performs = performs;
      ends = ends;
    }

-- all lines were performed
pub RunsSo-last : (s : Stop) (first now : Debugger) (lines : ℕ) → RunsSo s first now lines
    → to_do first ≤ lines → IsLast now
RunsSo-last s first now lines h all = omega (arith, h.left)

-- the run does not end before the line behind the place, of this number
pub not_before : (s : Stop) (d : Debugger) (next : ℕ) → is_before s next ≡ false → next ≡ line_here d.tape + 1
    → EndsBefore s d → ⊥
not_before s d next is same h = is_not (subst (λ n. is_before s n ≡ false) same is) h.0
