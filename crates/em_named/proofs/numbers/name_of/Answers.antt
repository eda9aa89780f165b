use Rattle.std.proofs.Common.{◌≡◌, ◌-◌, ◌<◌, ◌≤◌, ◌∙◌, ap, arith, inl, inr, subst}
use Rattle.em_named.specs.Numbers.{end_of, line_of}
use Rattle.em_named.proofs.NumberLaws.{ends-of, name-none, name-some}
use Rattle.em_named.proofs.numbers.name_of.Goals.{then-event-eq0-via-then-event-eq0, then-event-eq0-via-else-event-eq0+then-end-event}
use Rattle.em_named.proofs.numbers.name_of.Goals as goal

pub returns-then-event-eq0 : goal.returns-then-event-eq0
returns-then-event-eq0 c =
    let n = c.args.event in
    let did = c.args.did.now in
    elim c.then-event-eq0.branch [
      | then-event-eq0-via-then-event-eq0 w ↦ name-none n did (inl w.if-event-eq0.true)
      | then-event-eq0-via-else-event-eq0+then-end-event w ↦
          name-none n did (inr (subst (λ line. end_of line did < n) c.end_behind-end.ensures.line
          (omega (arith, w.if-end-event.true, c.end_behind-end.ensures.events))))
    ]

pub overflow_sub-result : goal.overflow_sub-result
overflow_sub-result c =
    let n = c.args.event in
    let did = c.args.did.now in
    let line = c.end_behind-end.result.line in
    let is = c.end_behind-end.ensures.line in
    let held : n ≤ end_of line did = omega (arith, c.if-end-event.false, c.end_behind-end.ensures.events) in
    let ends = ends-of n did (omega (arith, c.if-event-eq0.false)) (subst (λ l. n ≤ end_of l did) is held) in
    let e : c.before-2.result.line ≡ line_of n did - 1 = omega (arith, c.before-2.ensures.line, is) in
    let there : end_of c.before-2.result.line did ≡ end_of (line_of n did - 1) did = ap (λ l. end_of l did) e in
    omega (arith, ends.before, there, c.before-2.ensures.events)

pub returns : goal.returns
returns c =
    let n = c.args.event in
    let did = c.args.did.now in
    let line = c.end_behind-end.result.line in
    let e : c.before-2.result.line ≡ line - 1 = omega (arith, c.before-2.ensures.line) in
    name-some n line c.before-2.result.events did (omega (arith, c.if-event-eq0.false)) c.end_behind-end.ensures.line
    (omega (arith, c.if-end-event.false, c.end_behind-end.ensures.events))
    (c.before-2.ensures.events ∙ ap (λ l. end_of l did) e)
