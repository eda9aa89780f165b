use Rattle.std.proofs.Common.{◌≡◌, ap, length, refl, rules, subst}
use Rattle.std.proofs.lemmas.List.{nil_from_length}
use Rattle.em_turn.specs.Planned.{planned}
use Rattle.em_driver.specs.Taking.{world_with}
use Rattle.em_driver.specs.World.{World, Passes}
use Rattle.em_driver.proofs.course.FirstList.{pass_empty}
use Rattle.em_driver.proofs.turns.Turns.pass.Goals as goal

pub returns-else-not-is_empty : goal.returns-else-not-is_empty
returns-else-not-is_empty g c =
    let i = c.self.inside in
    let here = world_with (g.M.Acts.shows i.machine) i.stored.items i.counts in
    let short : length i.plan.items ≡ 0 = search rules in
    let none = ap planned (nil_from_length i.plan.items short) in
    subst (λ (w : World). Passes w w) c.self.view_is
    (pass_empty here (planned i.plan.items) (planned i.plan.items) i.starved refl none none)
