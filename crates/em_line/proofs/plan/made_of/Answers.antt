use Rattle.std.proofs.Common.{◌≡◌, ◌∙◌, [], rules, arith, ap, Some}
use Rattle.em_text.specs.Words.{words_of}
use Rattle.em_line.proofs.PlanLemmas.{each_said, builds_first, builds_turn, builds_end, builds_all, builds_few}
use Rattle.em_line.proofs.plan.made_of.Goals as goal

pub loop-word-init : goal.loop-word-init
loop-word-init c =
    rw (c.into_iter-word-iterator.ensures.into_iter_gives, c.new-made.ensures.items, c.new-turns.ensures.items)
    (builds_first (words_of c.args.words.0.now) c.requires)

pub turn_in-requires : goal.turn_in-requires
turn_in-requires c =
    let built = rw (c.in-Some.ensures.steps) at c.loop-word.invariant in
    (each_said c.in-Some.word.now (words_of c.next.new.self.0.now) built.left).0

pub loop-word-preserved-in-Continue-branch-3 : goal.loop-word-preserved-in-Continue-branch-3
loop-word-preserved-in-Continue-branch-3 c =
    let built = rw (c.in-Some.ensures.steps) at c.loop-word.invariant in
    let said = c.in_ok-turn.ensures ∙ ap Some c.in-Some-2.is in
    rw (c.in_ok-push-in-Some-2.ensures.items) (builds_turn c.in-Some.word.now c.in-Some-2.turn built said)

pub loop-word-preserved : goal.loop-word-preserved
loop-word-preserved c =
    let built = rw (c.in-Some.ensures.steps) at c.loop-word.invariant in
    let said = c.in_ok-turn.ensures ∙ ap Some c.in-None-2.is in
    rw (
      c.in_ok-push_back-in-None-2.ensures.items,
      c.replace.ensures.value,
      c.replace.ensures.after,
      c.new.ensures.items,
    )
    (builds_end c.loop-word.turns c.in-Some.word.now built said)

pub returns-clause-value : goal.returns-clause-value
returns-clause-value c =
    let none : words_of c.loop-word.word-iterator.0.now ≡ [] = search rules in
    rw (c.in_ok-push_back.ensures.items) (builds_all c.loop-word.turns c.loop-word.invariant none)

pub returns-clause-few : goal.returns-clause-few
returns-clause-few c =
    rw (c.in_ok-push_back.ensures.items)
    (omega (arith, builds_few c.loop-word.turns c.loop-word.invariant))
