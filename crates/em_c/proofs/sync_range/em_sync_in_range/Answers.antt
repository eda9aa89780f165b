use Rattle.std.proofs.Common.{Some, sym, ap, ◌∙◌, subst}
use Rattle.em_c.specs.SyncRange.{SyncsRangeIn}
use Rattle.em_c.proofs.sync_range.em_sync_in_range.Goals as goal

-- what is held is the machine that was taken out, and then that which was put in
pub returns : goal.returns
returns c =
    subst (λ held. SyncsRangeIn held c.args.addr c.args.octets.now c.args.writes.now c.tell.result c.tell.new.place
    c.put.new.self.sealed.held)
    (ap Some c.deref_mut.ensures.value ∙ sym c.in-Ok.ensures.some)
    (_, c.sync_in-outcome.result, c.sync_in-outcome.ensures, c.tell.ensures, c.put.ensures)
