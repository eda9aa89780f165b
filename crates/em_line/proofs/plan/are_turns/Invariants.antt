use Rattle.std.specs.Prelude.{IsSome}
use Rattle.em_text.specs.Words.{words_of}
use Rattle.em_line.specs.Plan.{plan_of}
use Rattle.em_line.proofs.plan.are_turns.Given as goal

-- the words say a plan exactly where those that are left do
abbrev pub invariant-loop-word : goal.invariant-loop-word
invariant-loop-word l =
    let rest = plan_of (words_of l.word-iterator.0.now) in
    let all = plan_of (words_of l.fn.words.0.now) in
    record { good : IsSome rest → IsSome all; bad : IsSome all → IsSome rest }
