use Rattle.std.proofs.Common.{◌≡◌, ◌∙◌, Option, Some, ap, subst, sym}
use Rattle.std.specs.Prelude.{IfSome}
use Rattle.std.proofs.lemmas.Option.{IfSome_then}
use Rattle.clap.specs.Words.{Text, first_of}
use Rattle.em_options.specs.Options.{IsNoMac, SaysOctets, said}
use Rattle.em_options.proofs.command.mac_of.Goals as goal

pub returns-clause-value : goal.returns-clause-value
unfolding said
returns-clause-value c =
    let name = c.args.name.now in
    IfSome_then c.address_of.result c.address_of.ensures.value (λ mac spelled words found.
    let same : said name words ≡ Some c.value_of.result.now = ap (first_of name) (sym found) ∙ c.value_of.ensures in
    subst (λ (o : Option Text). SaysOctets o mac) (sym same) spelled)

pub returns-clause-none : goal.returns-clause-none
unfolding said
returns-clause-none c none words found =
    let name = c.args.name.now in
    let same : said name words ≡ Some c.value_of.result.now = ap (first_of name) (sym found) ∙ c.value_of.ensures in
    let no_mac : IsNoMac c.value_of.result.now = λ is. (let some = c.address_of.ensures.found.1 is in cc) in
    subst (λ (o : Option Text). IfSome o IsNoMac) (sym same) no_mac
