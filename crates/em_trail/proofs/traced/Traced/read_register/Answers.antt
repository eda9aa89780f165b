use Rattle.std.proofs.Common.{◌∙◌, ap, arith}
use Rattle.em_regs.specs.Table.{offset_of}
use Rattle.em_step.specs.Event.{reads}
use Rattle.em_step.specs.declared.event.Answer.TheVariants.{Value}
use Rattle.em_trail.specs.Dma.{no_dma}
use Rattle.em_trail.specs.Note.{note_of}
use Rattle.em_trail.proofs.TrailLaws.{holds-noted}
use Rattle.em_trail.proofs.traced.Traced.read_register.Goals as goal

pub invariant_of-self : goal.invariant_of-self
invariant_of-self c =
    let value = c.read_register-value.result in
    holds-noted c.self.inside.machine c.read_register-value.new.self c.self.inside.notes c.push_front.new.self
    c.note_of.result (reads (offset_of c.args.reg)) (Value value) c.args.tag c.self.invariant
    c.read_register-value.ensures.does
    (c.note_of.ensures ∙ ap (λ o. note_of no_dma (reads o) (Value value) c.args.tag) c.offset.ensures)
    c.push_front.ensures.items (omega arith)
