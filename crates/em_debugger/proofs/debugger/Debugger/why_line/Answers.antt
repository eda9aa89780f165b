use Rattle.std.proofs.Common.{◌≡◌, ◌≤◌, ◌∙◌, true, ap, subst, sym}
use Rattle.em_debugger.specs.Debugger.{came}
use Rattle.em_debugger.specs.Place.{line_here}
use Rattle.em_debugger.specs.Why.{TellsWhyLine, TellsWhyOf, is_undone}
use Rattle.em_debugger.proofs.TextLaws.{OnOk-told}
use Rattle.em_debugger.proofs.WhyLaws.{line_here_told}
use Rattle.em_debugger.proofs.debugger.Debugger.why_line.Goals as goal

pub returns-then-is_undone : goal.returns-then-is_undone
returns-then-is_undone g c =
    let d = c.args.self.now in
    let line = c.args.line in
    let within : line ≤ line_here d.tape
    = subst (λ n. line ≤ n) c.line_here.ensures.line c.if-line_here-line.false in
    let undone : is_undone (came line d) ≡ true
    = ap is_undone (sym c.of.ensures) ∙ sym c.is_undone.ensures ∙ c.if-is_undone.true in
    record {
      ok = OnOk-told _ _ c.why_of.result (TellsWhyOf d line) (TellsWhyLine d line)
          (λ t h. line_here_told d line t within undone h) c.why_of.ensures.ok;
    }
