use Rattle.std.proofs.Common.{◌∙◌, ◌∷◌, ap}
use Rattle.em_latch.specs.declared.undo.TheConstants.{MOST_OCTETS}
use Rattle.em_latch.specs.Undo.{growths_of}
use Rattle.em_latch.proofs.RecordLaws.{IsAdded, few_growths, one_more, pushed, room_for, room_left}
use Rattle.em_latch.proofs.undo.LatchUndo.push.Goals as goal

pub join-width-requires : goal.join-width-requires
join-width-requires c =
    room_left c.growth.inside.by c.self.invariant (room_for _ c.self.view_is c.growth.view_is c.requires)

added : (c : goal.After-self-1) → IsAdded c.growth.inside.place c.growth.inside.by c.join-width.result.0
    c.join-width.result.1 c.self.inside.growths
added c = record {
  within = c.growth.invariant;
  few = c.join-width.ensures.few;
  octets = c.join-width.ensures.octets;
  newest = c.join-width.ensures.newest;
  others = c.join-width.ensures.others;
  room = few_growths c.growth.inside.by c.self.invariant (room_for _ c.self.view_is c.growth.view_is c.requires);
}

pub invariant_of-self : goal.invariant_of-self
invariant_of-self c =
    rw (c.from-2.ensures, c.from.ensures)
    (one_more c.self.invariant (room_for _ c.self.view_is c.growth.view_is c.requires) (added c))

pub returns : goal.returns
returns c =
    rw (c.from-2.ensures, c.from.ensures)
    (pushed (added c) ∙ ap (λ g. g ∷ growths_of MOST_OCTETS c.self.inside.growths) c.growth.view_is
    ∙ ap (λ gs. c.args.growth ∷ gs) c.self.view_is)
