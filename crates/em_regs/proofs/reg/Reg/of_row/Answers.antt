use Rattle.std.proofs.Common.{arith}
use Rattle.em_regs.proofs.TableLaws.{below_space, found_lies, none_found, none_lies, whole_word}
use Rattle.em_regs.proofs.reg.Reg.of_row.Goals.{then-offset-ge-SPACE-via-then-offset-ge-SPACE, then-offset-ge-SPACE-via-else-offset-ge-SPACE+then-offset-ne0}
use Rattle.em_regs.proofs.reg.Reg.of_row.Goals as goal

pub returns-then-offset-ge-SPACE-clause-table : goal.returns-then-offset-ge-SPACE-clause-table
returns-then-offset-ge-SPACE-clause-table c = none_found c.args.offset (λ reg has lies.
    let low = below_space reg has in
    let whole = whole_word reg in
    elim c.then-offset-ge-SPACE.branch [
      | then-offset-ge-SPACE-via-then-offset-ge-SPACE w ↦ omega (arith, low, lies, w.if-offset-ge-SPACE.true)
      | then-offset-ge-SPACE-via-else-offset-ge-SPACE+then-offset-ne0 w ↦ omega (arith, whole, lies, w.if-offset-ne0.true)
    ])

pub returns-clause-some : goal.returns-clause-some
returns-clause-some c = found_lies c.word_at.result c.args.offset c.word_at.ensures

pub returns-clause-none : goal.returns-clause-none
returns-clause-none c = none_lies c.word_at.result c.args.offset c.word_at.ensures
