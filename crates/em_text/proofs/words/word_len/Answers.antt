use Rattle.std.proofs.Common.{arith, rules, subst}
use Rattle.em_text.proofs.WordsLemmas.{HasNoBlank, front_more, word_ends}
use Rattle.em_text.proofs.words.word_len.Goals as goal
use Rattle.em_text.proofs.words.word_len.Goals.{then-line-len-ge-HALF_LANES+then-is_all_above_blanks-2, else-line-len-ge-HALF_LANES}

pub loop-len-preserved : goal.loop-len-preserved
loop-len-preserved c =
    front_more c.args.line.now c.loop-len.len 16 c.loop-len.invariant (omega arith)
    (c.is_all_above_blanks.ensures c.if-is_all_above_blanks.true)

pub loop-len-2-init : goal.loop-len-2-init
loop-len-2-init c =
    let line = c.args.line.now in
    elim c.if-line-len-ge-HALF_LANES.branch [
      | then-line-len-ge-HALF_LANES+then-is_all_above_blanks-2 w ↦ subst (HasNoBlank line) (search rules)
          (front_more line c.loop-len.len 8 c.loop-len.invariant (omega arith)
          (w.is_all_above_blanks-then-line-len-ge-HALF_LANES.ensures w.if-is_all_above_blanks-2.true))
      | else-line-len-ge-HALF_LANES w ↦ subst (HasNoBlank line) (search rules) c.loop-len.invariant
    ]

pub returns-else-not-is_blank-clause-value : goal.returns-else-not-is_blank-clause-value
returns-else-not-is_blank-clause-value c =
    word_ends c.args.line.now _ c.loop-len-2.invariant (λ lt. search rules)

pub returns-after-loop-len-2-clause-value : goal.returns-after-loop-len-2-clause-value
returns-after-loop-len-2-clause-value c =
    word_ends c.args.line.now _ c.loop-len-2.invariant (λ lt. absurd (omega arith))
