use Rattle.std.proofs.Common.{◌∙◌, rules}
use Rattle.clap.specs.Words.{found_of}
use Rattle.clap.proofs.WalkLemmas.{first_value-rows}
use Rattle.em_options.proofs.command.value_of.Goals as goal

pub unreachable-requires : goal.unreachable-requires
unreachable-requires c =
    let same = c.get_str.ensures ∙ first_value-rows (found_of c.args.matches.now) c.args.name.now in
    let none = rw c.in-None.is at same in
    let bad = rw (← none) at c.requires in
    cc

pub returns : goal.returns
returns c =
    let same = c.get_str.ensures ∙ first_value-rows (found_of c.args.matches.now) c.args.name.now in
    let text = rw c.in-Some.is at same in
    rw (← text) (search rules)
