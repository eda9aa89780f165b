use Rattle.std.proofs.Common.{◌∙◌, ap}
use Rattle.em_tape.specs.Texts.{texts}
use Rattle.em_tape.proofs.TapeLaws.{texts-insert}
use Rattle.em_tape.proofs.lines.put_text.Goals as goal

pub returns-clause-ok : goal.returns-clause-ok
returns-clause-ok c =
    ap texts c.in_ok-insert.ensures.items ∙ texts-insert c.args.lines.now.items c.args.before c.args.text
