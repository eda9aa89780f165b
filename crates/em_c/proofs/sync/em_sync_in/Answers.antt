use Rattle.std.proofs.Common.{Some, sym, ap, ◌∙◌, subst}
use Rattle.em_c.specs.Sync.{SyncsIn}
use Rattle.em_c.proofs.sync.em_sync_in.Goals as goal

-- what is held is the machine that was taken out, and then that which was put in
pub returns : goal.returns
returns c =
    subst (λ held. SyncsIn held c.args.ram.now c.args.writes.now c.number-2.result c.sync_in-outcome.new.writes
    c.put.new.self.sealed.held)
    (ap Some c.deref_mut.ensures.value ∙ sym c.in-Ok.ensures.some)
    (_, c.sync_in-outcome.result, c.sync_in-outcome.ensures, c.number-2.ensures, c.put.ensures)
