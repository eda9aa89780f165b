use Rattle.std.proofs.Common.{◌∙◌, ◌<◌, length, ap, arith}
use Rattle.std.proofs.lemmas.Bool.{lt-ltb}
use Rattle.std.proofs.lemmas.List.{length-map}
use Rattle.em_tape.specs.Texts.{texts}
use Rattle.em_debugger.proofs.ToldLaws.{texts-remove}
use Rattle.em_debugger.proofs.told.Told.close_up.Goals as goal

pub returns-then-lines-len : goal.returns-then-lines-len
returns-then-lines-len c =
    let old = c.args.self.now.answers.items in
    let within : c.args.lines < length (texts old) =
    omega (arith, c.if-lines-len.true, c.len.ensures, length-map old (λ v. v.items)) in
    rw (lt-ltb c.args.lines (length (texts old)) within) (ap texts c.remove-none.ensures.items
    ∙ texts-remove old c.args.lines)
