use Rattle.std.proofs.Common.{Some, sym, ap, ◌∙◌, subst}
use Rattle.em_step.specs.Event as events
use Rattle.em_kept.specs.Source as sources
use Rattle.em_c.specs.Kept.{Keeps}
use Rattle.em_c.proofs.kept.keep.Goals as goal

-- what is held is the machine that was taken out, and then that which was put in
pub returns : goal.returns
returns c =
    subst (λ held. Keeps held (events.plain c.args.event) (sources.plain c.args.source) c.keep_held-outcome.new.text
    c.keep_held-outcome.result c.put.new.self.sealed.held)
    (ap Some c.deref_mut.ensures.value ∙ sym c.in_ok-held.ensures.some)
    (_, c.keep_held-outcome.ensures, c.put.ensures)
