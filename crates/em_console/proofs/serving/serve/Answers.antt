use Rattle.std.proofs.Common.{◌≡◌, [], ◌∷◌, refl, subst, rules, arith, inl, inr, Ok, true, false}
use Rattle.em_console.specs.Turns.{Typed, Over, Failed, Told, Cut, asked}
use Rattle.em_console.specs.declared.fault.ConsoleFault.{ConsoleFault}
use Rattle.em_console.specs.declared.session.Flow.TheVariants.{Goes, Ends}
use Rattle.em_console.proofs.ServingLaws.{typed_line, answered_line, Served-more, Serves-last}
use Rattle.em_console.proofs.ServingLaws.{EndsBy-failed, EndsBy-within}
use Rattle.em_console.specs.Serving.{within, halts}
use Rattle.em_console.proofs.serving.serve.Goals as goal

pub returns-in_err-ask : goal.returns-in_err-ask
returns-in_err-ask g c =
    Serves-last g.C.Console.passes (within g.S.Answers.answers g.S.Answers.refuses) (halts g.S.Answers.stops) _ c.args.console.now c.loop-lines.console
    c.ask.new.self c.args.session.now c.loop-lines.session c.loop-lines.session c.loop-lines.lines (Failed ∷ [])
    c.loop-lines.invariant (c.ask.new.self, c.in_err-ask.ensures, refl)
    (EndsBy-failed (within g.S.Answers.answers g.S.Answers.refuses) (halts g.S.Answers.stops) _ c.loop-lines.lines c.loop-lines.session
    c.from_residual.ensures.0)

pub returns-then-not-branch : goal.returns-then-not-branch
returns-then-not-branch g c =
    let is : c.in_ok-ask.field-0 ≡ false = search rules in
    let over : g.C.Console.passes c.loop-lines.console Over c.ask.new.self =
    subst (λ more. g.C.Console.passes c.loop-lines.console (asked {E = ConsoleFault} (Ok more) c.ask.new.line.items)
    c.ask.new.self) is c.in_ok-ask.ensures in
    Serves-last g.C.Console.passes (within g.S.Answers.answers g.S.Answers.refuses) (halts g.S.Answers.stops) _ c.args.console.now c.loop-lines.console
    c.ask.new.self c.args.session.now c.loop-lines.session c.loop-lines.session c.loop-lines.lines (Over ∷ [])
    c.loop-lines.invariant (c.ask.new.self, over, refl) (refl, refl)

pub returns-in_default : goal.returns-in_default
returns-in_default g c =
    let is : c.in_ok-ask.field-0 ≡ true = search rules in
    let line = c.as_slice.result.now in
    let typed = typed_line g.C.Console.passes c.loop-lines.console c.ask.new.self c.in_ok-ask.field-0
    c.ask.new.line.items line is c.as_slice.ensures.value c.in_ok-ask.ensures in
    Serves-last g.C.Console.passes (within g.S.Answers.answers g.S.Answers.refuses) (halts g.S.Answers.stops) _ c.args.console.now c.loop-lines.console
    c.ask.new.self c.args.session.now c.loop-lines.session c.answer_to.new.session c.loop-lines.lines (Typed line ∷ [])
    c.loop-lines.invariant (c.ask.new.self, typed, refl)
    (inr (inr (inl (refl, record { line = line; turns = refl; stopped = c.in_default.ensures.err }))))

pub returns-in_err-tell : goal.returns-in_err-tell
returns-in_err-tell g c =
    let is : c.in_ok-ask.field-0 ≡ true = search rules in
    let line = c.as_slice.result.now in
    let text = c.as_slice-in-loop-lines.result.now in
    let typed = typed_line g.C.Console.passes c.loop-lines.console c.ask.new.self c.in_ok-ask.field-0
    c.ask.new.line.items line is c.as_slice.ensures.value c.in_ok-ask.ensures in
    let answered = answered_line (within g.S.Answers.answers g.S.Answers.refuses) c.loop-lines.session c.answer_to.new.session line c.answer_to.new.text.items
    text c.in-Ok.flow c.in-Ok.flow c.as_slice-in-loop-lines.ensures.value refl c.in-Ok.ensures.ok in
    let cut = c.in_err-tell.ensures.cut in
    Serves-last g.C.Console.passes (within g.S.Answers.answers g.S.Answers.refuses) (halts g.S.Answers.stops) _ c.args.console.now c.loop-lines.console
    c.tell.new.self c.args.session.now c.loop-lines.session c.answer_to.new.session c.loop-lines.lines
    (Typed line ∷ Cut cut.0 ∷ []) c.loop-lines.invariant
    (c.ask.new.self, typed, (c.tell.new.self, cut.2, refl))
    (EndsBy-within (within g.S.Answers.answers g.S.Answers.refuses) (halts g.S.Answers.stops) _ c.loop-lines.lines _ c.loop-lines.session c.answer_to.new.session
    c.from_residual-in_err-tell.ensures.0 record {
      round = record { line = line; text = text };
      flow = c.in-Ok.flow;
      part = cut.0;
      turns = refl;
      front = cut.1;
      answered = answered;
    })

pub returns-in-Ends : goal.returns-in-Ends
returns-in-Ends g c =
    let is : c.in_ok-ask.field-0 ≡ true = search rules in
    let line = c.as_slice.result.now in
    let text = c.as_slice-in-loop-lines.result.now in
    let typed = typed_line g.C.Console.passes c.loop-lines.console c.ask.new.self c.in_ok-ask.field-0
    c.ask.new.line.items line is c.as_slice.ensures.value c.in_ok-ask.ensures in
    let ended = answered_line (within g.S.Answers.answers g.S.Answers.refuses) c.loop-lines.session c.answer_to.new.session line c.answer_to.new.text.items
    text c.in-Ok.flow Ends c.as_slice-in-loop-lines.ensures.value c.in-Ends.is c.in-Ok.ensures.ok in
    Serves-last g.C.Console.passes (within g.S.Answers.answers g.S.Answers.refuses) (halts g.S.Answers.stops) _ c.args.console.now c.loop-lines.console
    c.tell.new.self c.args.session.now c.loop-lines.session c.answer_to.new.session c.loop-lines.lines
    (Typed line ∷ Told text ∷ []) c.loop-lines.invariant
    (c.ask.new.self, typed, (c.tell.new.self, c.in_ok-tell.ensures.told, refl))
    record { round = record { line = line; text = text }; turns = refl; answered = ended }

pub loop-lines-preserved : goal.loop-lines-preserved
loop-lines-preserved g c =
    let is : c.in_ok-ask.field-0 ≡ true = search rules in
    let line = c.as_slice.result.now in
    let text = c.as_slice-in-loop-lines.result.now in
    let typed = typed_line g.C.Console.passes c.loop-lines.console c.ask.new.self c.in_ok-ask.field-0
    c.ask.new.line.items line is c.as_slice.ensures.value c.in_ok-ask.ensures in
    let goes = answered_line (within g.S.Answers.answers g.S.Answers.refuses) c.loop-lines.session c.answer_to.new.session line c.answer_to.new.text.items
    text c.in-Ok.flow Goes c.as_slice-in-loop-lines.ensures.value c.in-Goes.is c.in-Ok.ensures.ok in
    Served-more g.C.Console.passes (within g.S.Answers.answers g.S.Answers.refuses) c.args.console.now c.loop-lines.console c.ask.new.self
    c.tell.new.self c.args.session.now c.loop-lines.session c.answer_to.new.session c.loop-lines.lines line text
    c.loop-lines.invariant typed goes c.in_ok-tell.ensures.told

pub returns : goal.returns
returns g c =
    Serves-last g.C.Console.passes (within g.S.Answers.answers g.S.Answers.refuses) (halts g.S.Answers.stops) _ c.args.console.now c.loop-lines.console
    c.loop-lines.console c.args.session.now c.loop-lines.session c.loop-lines.session c.loop-lines.lines []
    c.loop-lines.invariant refl (inr (inr (inr (refl, omega arith, refl, refl))))
