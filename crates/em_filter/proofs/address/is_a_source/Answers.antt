use Rattle.std.proofs.Common.{rules, tests, refl}
use Rattle.std.proofs.lemmas.Iterator.{YieldsList-from_range}
use Rattle.std.proofs.lemmas.Iterator.Search.{any_from_yields_List}
use Rattle.em_address.specs.Kind.{destination}
use Rattle.em_filter.specs.Address.{is_source_at}
use Rattle.em_filter.proofs.address.is_a_source.Goals as goal

pub returns : goal.returns
returns c =
    let s = c.args.regs.now in
    let a = destination c.args.address.now in
    let entries = YieldsList-from_range 0 16 16 refl refl in
    any_from_yields_List (is_source_at s a) _ _ c.any.result c.any.ensures.ran entries (λ x b q k. search (rules, tests))
