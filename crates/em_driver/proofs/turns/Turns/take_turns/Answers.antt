use Rattle.std.proofs.Common.{◌≡◌, [], ap, refl, rules, subst, true}
use Rattle.em_turn.specs.Planned.{planned}
use Rattle.em_driver.specs.Taking.{world_with}
use Rattle.em_driver.specs.World.{World, Passes}
use Rattle.em_driver.proofs.course.FirstList.{pass_empty, pass_whole, pass_starved, planning}
use Rattle.em_driver.proofs.turns.Turns.take_turns.Goals as goal

pub returns-in_default : goal.returns-in_default
returns-in_default g c =
    let here = world_with (g.M.Acts.shows c.self.inside.machine) c.self.inside.stored.items c.self.inside.counts in
    let none : c.self.inside.plan.items ≡ [] = search rules in
    let left : c.pop_front.new.self.items ≡ [] = search rules in
    subst (λ (w : World). Passes w (planning (planned c.pop_front.new.self.items) c.self.inside.starved here))
    c.self.view_is
    (pass_empty here (planned c.self.inside.plan.items) (planned c.pop_front.new.self.items) c.self.inside.starved
    refl (ap planned none) (ap planned left))

pub returns-then-not-take_all : goal.returns-then-not-take_all
returns-then-not-take_all g c =
    let before = world_with (g.M.Acts.shows c.self.inside.machine) c.self.inside.stored.items c.self.inside.counts in
    let after = world_with (g.M.Acts.shows c.take_all.new.machine) c.take_all.new.stored.items c.take_all.new.counts in
    subst (λ (w : World). Passes w (planning (planned c.clear.new.self.items) true after)) c.self.view_is
    (pass_starved before after c.in-Some.turns.items (planned c.self.inside.plan.items) (planned
    c.pop_front.new.self.items)
    (planned c.clear.new.self.items) c.self.inside.starved refl
    (ap planned c.in-Some.ensures.items) (ap planned c.clear.ensures.items) c.if-not-take_all.ensures.takes)

pub returns-else-not-take_all : goal.returns-else-not-take_all
returns-else-not-take_all g c =
    let before = world_with (g.M.Acts.shows c.self.inside.machine) c.self.inside.stored.items c.self.inside.counts in
    let after = world_with (g.M.Acts.shows c.take_all.new.machine) c.take_all.new.stored.items c.take_all.new.counts in
    subst (λ (w : World). Passes w (planning (planned c.pop_front.new.self.items) c.self.inside.starved after))
    c.self.view_is
    (pass_whole before after c.in-Some.turns.items (planned c.self.inside.plan.items) (planned
    c.pop_front.new.self.items)
    c.self.inside.starved refl (ap planned c.in-Some.ensures.items) c.if-not-take_all.ensures.takes)
