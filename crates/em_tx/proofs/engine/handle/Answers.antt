use Rattle.std.proofs.Common.{◌≡◌, ◌+◌, ◌∙◌, ap, arith, length, refl, sym, subst}
use Rattle.em_tx.specs.Cells.{cells, with_room}
use Rattle.em_tx.specs.Change.{sent_with}
use Rattle.em_tx.specs.Undo.{Reverses}
use Rattle.em_tx.specs.Wire.{plain}
use Rattle.em_tx.specs.declared.undo.TxUndo.TheVariants.{Step}
use Rattle.em_tx.proofs.ReverseLaws.{Reverses-fetch, Reverses-send}
use Rattle.em_tx.proofs.engine.handle.Goals as goal

pub returns-then-count-from-gt0-clause-reverses : goal.returns-then-count-from-gt0-clause-reverses
returns-then-count-from-gt0-clause-reverses c =
    let count : c.len-count.result ≡ length c.args.octets.now.items = omega arith in
    let sent = c.send-sent in
    let status = c.report-status in
    let old = cells (with_room c.args.octets.now.items) (plain c.args.frames.now) c.args.memory.now in
    let new = cells (with_room sent.new.octets.items) (plain sent.new.frames) status.new.memory in
    let same : c.new.result ≡ record {
      count = c.len-count.result;
      cost = c.from.result + c.from-2.result + sent.result.octets;
      sent = sent_with sent.result.tagged;
      status = status.result;
    } = c.new.ensures ∙ ap (λ s. record {
      count = c.len-count.result;
      cost = c.from.result + c.from-2.result + sent.result.octets;
      sent = s;
      status = status.result;
    }) c.with-frame.ensures in
    subst (λ x. Reverses old new (Step x)) (sym same)
    (Reverses-send c.args.setup.now c.args.descriptor.now _ sent.new.octets.items c.args.memory.now status.new.memory _
    refl sent.ensures.wire sent.ensures.tagged count status.ensures.reverses)

pub returns-else-eop-clause-reverses : goal.returns-else-eop-clause-reverses
returns-else-eop-clause-reverses c =
    let count : c.len-count.result ≡ length c.args.octets.now.items = omega arith in
    let status = c.report-status-else-eop in
    let old = cells (with_room c.args.octets.now.items) (plain c.args.frames.now) c.args.memory.now in
    let new = cells (with_room c.fetch.new.octets.items) (plain c.args.frames.now) status.new.memory in
    subst (λ x. Reverses old new (Step x)) (sym c.new-else-eop.ensures)
    (Reverses-fetch _ c.args.memory.now status.new.memory _ c.fetch.ensures.octets count status.ensures.reverses)
