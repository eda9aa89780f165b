use Rattle.std.proofs.Common.{◌+◌, length, refl, subst, rules}
use Rattle.std.specs.Prelude.{◌≢◌}
use Rattle.em_tape.specs.Texts.{texts}
use Rattle.em_debugger.specs.Told.{KeepsText}
use Rattle.em_debugger.proofs.ToldLaws.{expects_put, puts_set}
use Rattle.em_debugger.proofs.files.add_beside.Goals as goal

pub returns-clause-marked : goal.returns-clause-marked
returns-clause-marked c =
    let mark = c.args.mark.now in
    let before = c.len-before.result in
    let old = texts c.args.marks.now.answers.items in
    let new = texts c.set.new.self.answers.items in
    let some : length mark ≢ 0 = search rules in
    subst (λ n. KeepsText (n + 1) mark old new) c.len-before.ensures.len (expects_put (before + 1) mark old new some
    (puts_set _ _ _ (before + 1) before c.in-Ok.text mark c.make_ready.ensures.stay refl c.in-Ok.ensures.place
    c.in-Ok.ensures.text c.set.ensures))
