use Rattle.std.proofs.Common.{ap₂, ◌∙◌}
use Rattle.std.specs.Fmt.{digits}
use Rattle.hex.proofs.OnLiterals.{hex_on_literals}
use Rattle.clap.specs.Words.{with_rule}
use Rattle.em_options.specs.Options.{em_bench}
use Rattle.em_options.proofs.command.command.Goals as goal

pub returns : goal.returns
unfolding em_bench hex_on_literals digits
returns c =
    let one = c.in_ok-command.ensures ∙ ap₂ with_rule c.bare-command.ensures c.number.ensures.rule in
    let two = c.in_ok-command-2.ensures ∙ ap₂ with_rule one c.number-2.ensures.rule in
    let three = c.in_ok-command-3.ensures ∙ ap₂ with_rule two c.option.ensures.rule in
    c.in_ok-command-4.ensures ∙ ap₂ with_rule three c.script.ensures.rule
