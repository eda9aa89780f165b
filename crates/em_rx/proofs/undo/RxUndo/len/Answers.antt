use Rattle.std.proofs.Common.{min, sym, ap, ◌∙◌}
use Rattle.em_rx.specs.Records.{record_of}
use Rattle.em_rx.specs.Undo.{octets_held}
use Rattle.em_rx.specs.declared.undo.RxUndo.{RxUndo}
use Rattle.em_rx.proofs.HeldLaws.{held_of_piece}
use Rattle.em_rx.proofs.undo.RxUndo.len.Goals as goal

pub returns-in-Step : goal.returns-in-Step
returns-in-Step c =
    c.min-in-Step.ensures
    ∙ (λ i. min (c.len-in-Step.ensures i) (c.room-in-Step.ensures.room i))
    ∙ sym (held_of_piece c.in-Step.piece c.in-Step.old)
    ∙ ap (λ (r : RxUndo). octets_held (record_of r)) (sym c.in-Step.is)
