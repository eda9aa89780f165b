use Rattle.std.proofs.Common.{◌≡◌, ◌∙◌, ap, subst}
use Rattle.em_debugger.specs.Place.{line_here}
use Rattle.em_debugger.specs.Why.{TellsWhyAny, TellsWhyNewest, TellsWhyOf, newest_such}
use Rattle.em_debugger.proofs.TextLaws.{OnOk-told}
use Rattle.em_debugger.proofs.WhyLaws.{why_any}
use Rattle.em_debugger.proofs.debugger.Debugger.why_newest.Goals as goal

pub returns : goal.returns
returns g c =
    let d = c.args.self.now in
    let n = c.newest_such-line.result in
    let is : n ≡ newest_such c.args.such d (line_here d.tape) =
    c.newest_such-line.ensures.newest ∙ ap (newest_such c.args.such d) c.line_here.ensures.line in
    record {
      ok = OnOk-told _ _ c.why_of.result (TellsWhyOf d n) (TellsWhyNewest c.args.such d)
          (λ t h. subst (λ m. TellsWhyAny c.args.such d m t) is (why_any c.args.such d n t c.if-line-eq0.false h)) c.why_of.ensures.ok;
    }
