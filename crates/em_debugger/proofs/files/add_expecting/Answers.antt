use Rattle.std.proofs.Common.{◌+◌, length, refl, subst, rules}
use Rattle.std.specs.Prelude.{◌≢◌}
use Rattle.em_tape.specs.Texts.{texts}
use Rattle.em_debugger.specs.Expected.{Expects}
use Rattle.em_debugger.proofs.ToldLaws.{expects_put, puts_set}
use Rattle.em_debugger.proofs.files.add_expecting.Goals as goal

pub returns-clause-expect : goal.returns-clause-expect
returns-clause-expect c =
    let answer = c.args.answer.now in
    let before = c.len-before.result in
    let old = texts c.args.wanted.now.answers.items in
    let new = texts c.set.new.self.answers.items in
    let some : length answer ≢ 0 = search rules in
    subst (λ n. Expects (n + 1) answer old new) c.len-before.ensures.len (expects_put (before + 1) answer old new some
    (puts_set _ _ _ (before + 1) before c.in-Ok.answer answer c.make_ready.ensures.stay refl c.in-Ok.ensures.place
    c.in-Ok.ensures.text c.set.ensures))
