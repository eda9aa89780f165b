use Rattle.std.proofs.Common.{◌≡◌, [], rules, refl, subst}
use Rattle.std.specs.Prelude.{IsSome}
use Rattle.std.proofs.lemmas.Bool.{false≢true}
use Rattle.em_text.specs.Words.{words_of}
use Rattle.em_line.specs.Plan.{plan_of}
use Rattle.em_line.proofs.PlanLemmas.{each_said, said_more}
use Rattle.em_line.proofs.plan.are_turns.Goals as goal

pub returns-then-not-is_turn : goal.returns-then-not-is_turn
returns-then-not-is_turn c = (
  λ h. absurd (false≢true h),
  λ some.
      let rest = subst (λ words. IsSome (plan_of words)) c.in-Some.ensures.steps (c.loop-word.invariant.bad some) in
      c.if-not-is_turn.ensures.1 (each_said c.in-Some.word.now (words_of c.next.new.self.0.now) rest).0,
)

pub loop-word-preserved : goal.loop-word-preserved
loop-word-preserved c =
    let word = c.in-Some.word.now in
    let rest = words_of c.next.new.self.0.now in
    let said = c.if-not-is_turn.ensures.0 refl in
    record {
      good = λ some. c.loop-word.invariant.good (rw (c.in-Some.ensures.steps) (said_more word rest said some));
      bad = λ some. (each_said word rest
          (subst (λ words. IsSome (plan_of words)) c.in-Some.ensures.steps (c.loop-word.invariant.bad some))).1;
    }

pub returns : goal.returns
returns c =
    let none : words_of c.loop-word.word-iterator.0.now ≡ [] = search rules in
    (λ h. c.loop-word.invariant.good (rw none refl), λ some. refl)
