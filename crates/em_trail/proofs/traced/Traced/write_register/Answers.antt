use Rattle.std.proofs.Common.{◌∙◌, ap, arith}
use Rattle.em_regs.specs.Table.{offset_of}
use Rattle.em_step.specs.Event.{writes}
use Rattle.em_step.specs.declared.event.Answer.TheVariants.{Done}
use Rattle.em_trail.specs.Dma.{no_dma}
use Rattle.em_trail.specs.Note.{note_of}
use Rattle.em_trail.proofs.TrailLaws.{holds-noted}
use Rattle.em_trail.proofs.traced.Traced.write_register.Goals as goal

pub invariant_of-self-2 : goal.invariant_of-self-2
invariant_of-self-2 c =
    holds-noted c.self.inside.machine c.write_register.new.self c.self.inside.notes c.push_front.new.self
    c.note_of.result (writes (offset_of c.args.reg) c.args.value) Done c.args.tag c.self.invariant
    c.in_ok-write_register.ensures.ok.does
    (c.note_of.ensures ∙ ap (λ o. note_of no_dma (writes o c.args.value) Done c.args.tag) c.offset.ensures)
    c.push_front.ensures.items (omega arith)
