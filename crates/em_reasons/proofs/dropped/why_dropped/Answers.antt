use Rattle.std.proofs.Common.{◌+◌, ◌∙◌, length, ap, sym, refl}
use Rattle.em_rx.specs.Frame.{len_of}
use Rattle.em_step.specs.Arrival.{kept_frame}
use Rattle.em_step.specs.declared.event.Reason.TheVariants.{Rejected, Undersize, Oversize, Missed}
use Rattle.em_reasons.specs.declared.dropped.Dropped.TheVariants as dropped
use Rattle.em_reasons.proofs.DropLemmas.{drop_said}
use Rattle.em_reasons.proofs.dropped.why_dropped.Goals as goal

pub returns-in-Rejected : goal.returns-in-Rejected
returns-in-Rejected c =
    drop_said c.args.machine.now.present c.args.frame.now c.args.reason Rejected c.rejected.result c.in-Rejected.is
    (sym c.rejected.ensures)

pub returns-in-Undersize : goal.returns-in-Undersize
returns-in-Undersize c =
    let f = c.args.frame.now in
    drop_said c.args.machine.now.present f c.args.reason Undersize (dropped.Undersize (length f + 4)) c.in-Undersize.is
    refl

pub returns-in-Oversize : goal.returns-in-Oversize
returns-in-Oversize c =
    let f = c.args.frame.now in
    drop_said c.args.machine.now.present f c.args.reason Oversize c.too_long.result c.in-Oversize.is
    (sym c.too_long.ensures)

pub returns-in-Missed : goal.returns-in-Missed
returns-in-Missed c =
    let s = c.args.machine.now.present in
    let f = c.args.frame.now in
    drop_said s f c.args.reason Missed (dropped.Missed c.stored_octets.result c.frames.result) c.in-Missed.is
    (ap (dropped.Missed (len_of (kept_frame s f))) (sym c.frames.ensures)
    ∙ ap (λ n. dropped.Missed n c.frames.result) (sym c.stored_octets.ensures))
