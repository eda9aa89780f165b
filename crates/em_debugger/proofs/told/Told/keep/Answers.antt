use Rattle.std.proofs.Common.{◌∙◌, ap, sym}
use Rattle.std.proofs.lemmas.List.{take-map}
use Rattle.em_tape.specs.Texts.{texts}
use Rattle.em_debugger.proofs.told.Told.keep.Goals as goal

pub returns : goal.returns
returns c = ap texts c.truncate.ensures.items ∙ sym (take-map (λ answer. answer.items) c.args.lines _)
