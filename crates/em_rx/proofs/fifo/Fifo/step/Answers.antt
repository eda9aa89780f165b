-- The record has the octets that the step saved.
use Rattle.std.proofs.Common.{ap, ◌∙◌, arith}
use Rattle.em_rx.specs.Fifo.{shows}
use Rattle.em_rx.specs.Undo.{octets_held}
use Rattle.em_rx.proofs.HeldLaws.{held_by, most_written, room_by}
use Rattle.em_rx.proofs.fifo.Fifo.step.Goals as goal

pub returns-clause-held : goal.returns-clause-held
returns-clause-held c =
    ap octets_held c.into_parts.ensures.undo
    ∙ held_by c.in_ok-step.step 0 _ c.receive.new.old c.in_ok-step.ensures.keeps
    ∙ c.in_ok-step.ensures.held

pub returns-clause-most : goal.returns-clause-most
returns-clause-most c =
    omega (arith, returns-clause-held c, most_written c.args.control c.args.memory.now.octets (shows c.args.self.now) c.requires.buffer)

pub returns-clause-whole : goal.returns-clause-whole
returns-clause-whole c =
    c.into_parts.ensures.whole (room_by c.in_ok-step.step 0 _ c.receive.new.old c.in_ok-step.ensures.keeps)
