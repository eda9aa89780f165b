use Rattle.std.proofs.Common.{◌≡◌, ◌∙◌, Option, Some, ap, rules, subst, sym}
use Rattle.clap.specs.Words.{Text, first_of}
use Rattle.em_options.specs.Options.{SaysNumber, said}
use Rattle.em_options.proofs.command.number_of.Goals as goal

pub returns : goal.returns
unfolding said
returns c words found =
    let name = c.args.name.now in
    let same : said name words ≡ Some c.value_of.result.now = ap (first_of name) (sym found) ∙ c.value_of.ensures in
    let spelled : SaysNumber (Some c.value_of.result.now) c.in-Ok.number = search rules in
    subst (λ (o : Option Text). SaysNumber o c.in-Ok.number) (sym same) spelled
