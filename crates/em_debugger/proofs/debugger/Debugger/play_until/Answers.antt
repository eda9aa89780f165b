use Rattle.std.proofs.Common.{◌≡◌, ◌∙◌, ◌+◌, ap, sym, subst}
use Rattle.em_debugger.specs.Place.{line_here}
use Rattle.em_debugger.specs.Stops.{EndsSince, GoesOnSince}
use Rattle.em_debugger.proofs.StopsLaws.{RanTo-here, RunsSo-more, RunsSo-none, not_before}
use Rattle.em_debugger.proofs.debugger.Debugger.play_until.Goals as goal

pub loop-lines-init : goal.loop-lines-init
loop-lines-init c = RunsSo-none c.args.stop c.args.self.now

pub returns-then-stops_here : goal.returns-then-stops_here
returns-then-stops_here c =
    let h = c.loop-lines.invariant in
    let now = c.loop-lines.self in
    let next : c.line_here-here.result + 1 ≡ line_here now.tape + 1 = ap (λ n. n + 1) c.line_here-here.ensures.line in
    RanTo-here c.args.stop c.args.self.now now c.perform_next.new.self c.loop-lines.lines c.in-Ok-Some.performed h
    (not_before c.args.stop now (c.line_here-here.result + 1) (sym c.is_before.ensures ∙ c.if-is_before.false) next)
    (rw c.in-Ok-Some.field-0-is at c.in-Ok-Some.ensures.some)
    (subst (λ e. EndsSince c.args.stop e c.perform_next.new.self c.in-Ok-Some.performed) c.event-before.ensures
    (c.stops_here.ensures.ends c.if-stops_here.true))

pub loop-lines-preserved : goal.loop-lines-preserved
loop-lines-preserved c =
    let h = c.loop-lines.invariant in
    let now = c.loop-lines.self in
    let next : c.line_here-here.result + 1 ≡ line_here now.tape + 1 = ap (λ n. n + 1) c.line_here-here.ensures.line in
    RunsSo-more c.args.stop c.args.self.now now c.perform_next.new.self c.loop-lines.lines c.in-Ok-Some.performed h
    (not_before c.args.stop now (c.line_here-here.result + 1) (sym c.is_before.ensures ∙ c.if-is_before.false) next)
    (rw c.in-Ok-Some.field-0-is at c.in-Ok-Some.ensures.some)
    (subst (λ e. GoesOnSince c.args.stop e c.perform_next.new.self c.in-Ok-Some.performed) c.event-before.ensures
    (c.stops_here.ensures.goes_on c.if-stops_here.false))
