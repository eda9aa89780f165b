use Rattle.std.proofs.Common.{◌≡◌, ◌-◌, ◌∙◌, take, drop, ap, subst, arith}
use Rattle.std.specs.Prelude.{All}
use Rattle.std.proofs.lemmas.List.{take-map, drop-map}
use Rattle.std.proofs.lemmas.List.Elements.{All-take, All-drop}
use Rattle.em_tape.specs.Texts.{texts}
use Rattle.em_tape.specs.Known.{AreDone}
use Rattle.em_tape.specs.Tape.{IsShort}
use Rattle.em_tape.proofs.AgainLaws.{known_before, known_behind, done_between}
use Rattle.em_tape.proofs.again.go_along.Goals as goal

pub returns-then-line-here-clause-there : goal.returns-then-line-here-clause-there
returns-then-line-here-clause-there c = λ gone first did answered known.
    known_before c.in-Some.here c.args.line known c.in-Some.ensures.0 c.in-Some.ensures.1 c.if-line-here.true
    (c.take_back.ensures.there gone)

pub perform_again-requires-clause-short : goal.perform_again-requires-clause-short
perform_again-requires-clause-short c =
    let ls = c.args.lines.now in
    let here = c.in-Some.here in
    let k = c.args.line - here in
    let same : take k (drop here (texts ls)) ≡ texts (take k (drop here ls)) =
    ap (take k) (drop-map (λ v. v.items) here ls) ∙ take-map (λ v. v.items) k (drop here ls) in
    subst (All IsShort) same (All-take IsShort k (drop here (texts ls)) (All-drop IsShort here (texts ls) c.requires.short))

pub returns-clause-there : goal.returns-clause-there
returns-clause-there c = λ gone first did answered known.
    let ls = c.args.lines.now in
    let here = c.in-Some.here in
    let k = c.args.line - here in
    let same : take k (drop here (texts ls)) ≡ texts (take k (drop here ls)) =
    ap (take k) (drop-map (λ v. v.items) here ls) ∙ take-map (λ v. v.items) k (drop here ls) in
    known_behind here c.args.line known c.in-Some.ensures.0 c.in-Some.ensures.1 (omega (arith, c.if-line-here.false))
    (omega (arith, c.if-line-known.false)) (λ all done. c.perform_again.ensures.there gone all
    (subst (λ text. AreDone all (take k (drop here c.args.known.now)) text c.args.session.now) same done))

pub returns-clause-same : goal.returns-clause-same
returns-clause-same c = λ failed first did answered known.
    let ls = c.args.lines.now in
    let here = c.in-Some.here in
    let k = c.args.line - here in
    let same : take k (drop here (texts ls)) ≡ texts (take k (drop here ls)) =
    ap (take k) (drop-map (λ v. v.items) here ls) ∙ take-map (λ v. v.items) k (drop here ls) in
    c.perform_again.ensures.same failed (take k (drop here known.all))
    (subst (λ text. AreDone (take k (drop here known.all)) (take k (drop here c.args.known.now)) text c.args.session.now)
    same (done_between here c.args.line known c.in-Some.ensures.0 c.in-Some.ensures.1
    (omega (arith, c.if-line-here.false)) (omega (arith, c.if-line-known.false))))
