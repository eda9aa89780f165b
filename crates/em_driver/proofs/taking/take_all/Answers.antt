use Rattle.std.proofs.Common.{◌∙◌, ◌∷◌, ◌++◌, [], length, arith, sym, ap, append_assoc}
use Rattle.std.specs.Vec.Iter.{into_iter_items}
use Rattle.em_turn.specs.Turn.{arrivals}
use Rattle.em_driver.specs.Taking.{world_with}
use Rattle.em_driver.proofs.course.TakenTurns.{performed_more, refused_more}
use Rattle.em_driver.proofs.taking.take_all.Goals as goal

pub loop-turn-preserved-in-Performed : goal.loop-turn-preserved-in-Performed
loop-turn-preserved-in-Performed g c =
    let here = c.loop-turn.invariant.2 in
    let step = c.in-Some.ensures.steps.0 in
    let list = ap length step in
    let some = ap arrivals step in (
      tt,
      tt,
      record {
        list = here.list ∙ ap (λ q. c.loop-turn.yielded ++ q) step
            ∙ sym (append_assoc c.loop-turn.yielded (c.in-Some.turn ∷ []) (into_iter_items c.next.new.self));
        world = performed_more (world_with (g.M.Acts.shows c.args.machine.now) c.args.stored.now.items
            c.args.counts.now) c.loop-turn.yielded (g.M.Acts.shows c.loop-turn.machine)
            (g.M.Acts.shows c.take.new.machine) c.loop-turn.stored.items c.take.new.stored.items c.loop-turn.counts
            c.in-Some.turn here.world c.in-Performed.ensures.takes;
        few = omega (arith, list, here.few);
        room = omega (arith, some, here.room, c.take.ensures.room);
        capacity = c.take.ensures.capacity ∙ here.capacity;
      },
    )

pub loop-turn-preserved : goal.loop-turn-preserved
loop-turn-preserved g c =
    let here = c.loop-turn.invariant.2 in
    let step = c.in-Some.ensures.steps.0 in
    let list = ap length step in
    let some = ap arrivals step in (
      tt,
      tt,
      record {
        list = here.list ∙ ap (λ q. c.loop-turn.yielded ++ q) step
            ∙ sym (append_assoc c.loop-turn.yielded (c.in-Some.turn ∷ []) (into_iter_items c.next.new.self));
        world = refused_more (world_with (g.M.Acts.shows c.args.machine.now) c.args.stored.now.items
            c.args.counts.now) c.loop-turn.yielded (g.M.Acts.shows c.loop-turn.machine)
            (g.M.Acts.shows c.take.new.machine) c.loop-turn.stored.items c.take.new.stored.items c.loop-turn.counts
            c.in-Some.turn here.world c.in-Refused.ensures.takes;
        few = omega (arith, list, here.few);
        room = omega (arith, some, here.room, c.take.ensures.room);
        capacity = c.take.ensures.capacity ∙ here.capacity;
      },
    )
