use Rattle.std.proofs.Common.{Ok, Some, sym, ap, ◌∙◌, subst}
use Rattle.em_step.specs.Event.{plain}
use Rattle.em_c.specs.Calls.{Performs}
use Rattle.em_c.proofs.handle.EmMachine.perform.Goals as goal

-- what is held is the machine that was taken out, and then that which was put in
pub returns-in-Ok : goal.returns-in-Ok
returns-in-Ok c =
    subst (λ held. Performs held (plain c.args.event) (Ok c.in-Ok.answer) c.put.new.self.sealed.held)
    (ap Some c.deref_mut.ensures.value ∙ sym c.in_ok-machine.ensures.some)
    (_, c.in-Ok.ensures.ok, c.put.ensures)
