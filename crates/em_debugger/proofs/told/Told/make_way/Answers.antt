use Rattle.std.proofs.Common.{◌∙◌, ◌<◌, length, ap, arith}
use Rattle.std.specs.Prelude.{insert}
use Rattle.std.proofs.lemmas.Bool.{lt-ltb}
use Rattle.std.proofs.lemmas.List.{length-map}
use Rattle.em_tape.specs.Texts.{texts}
use Rattle.em_tape.proofs.TapeLaws.{texts-insert}
use Rattle.em_debugger.proofs.told.Told.make_way.Goals as goal

pub returns-in_ok-insert : goal.returns-in_ok-insert
returns-in_ok-insert c =
    let old = c.args.self.now.answers.items in
    let within : c.args.lines < length (texts old) =
    omega (arith, c.if-lines-len.true, c.len.ensures, length-map old (λ v. v.items)) in
    record {
      ok = rw (lt-ltb c.args.lines (length (texts old)) within) (ap texts c.in_ok-insert.ensures.items
          ∙ texts-insert old c.args.lines c.new.result
          ∙ ap (λ l. insert (texts old) c.args.lines l) c.new.ensures.items);
      err = tt;
    }
