use Rattle.std.proofs.Common.{◌≡◌, ◌∙◌, ap, rules}
use Rattle.em_tx.specs.Cells.{Gathered, cells, shows, with_room}
use Rattle.em_tx.specs.Engine.{Refuses, handle}
use Rattle.em_tx.specs.Wire.{frames_from, plain}
use Rattle.em_tx.proofs.EngineLaws.{transmit-handle, Refuses-memory, shows-same}
use Rattle.em_tx.proofs.engine.perform.Goals as goal

pub returns-in_err-make_room-clause-err : goal.returns-in_err-make_room-clause-err
returns-in_err-make_room-clause-err c =
    let r = c.requires in
    let start = shows (cells c.args.gather.now c.args.wire.now c.args.memory.now) in
    let refuses : Refuses c.args.control.now c.args.memory.now.base start c.in_err-make_room.field-0.0
    = Refuses-memory c.args.control.now c.args.memory.now.base _ c.args.descriptor.now r.turn r.held r.octets r.allowed
    c.in_err-make_room.ensures.refused in
    search (rules, refuses)

pub returns-clause-ok : goal.returns-clause-ok
returns-clause-ok c =
    let r = c.requires in
    let made = c.make_room in
    let room : shows (cells (with_room made.new.octets.items) (plain made.new.frames) made.new.memory)
    ≡ shows (cells c.args.gather.now c.args.wire.now c.args.memory.now)
    = shows-same (with_room made.new.octets.items) c.args.gather.now made.new.memory c.args.memory.now
    (made.ensures.gathered ∙ ap (λ (g : Gathered). g.octets) c.gather.view_is)
    ((λ i. frames_from 0 (made.ensures.ends i) (made.ensures.octets i)) ∙ c.wire.view_is) made.ensures.memory.octets in
    transmit-handle c.args.control.now c.args.memory.now.base _ c.args.descriptor.now r.turn r.held r.octets r.allowed
    (c.handle.ensures.state ∙ ap (handle c.args.control.now.setup c.args.descriptor.now) room)
