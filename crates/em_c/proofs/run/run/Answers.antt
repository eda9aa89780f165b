use Rattle.std.proofs.Common.{Some, None, refl, sym, ap, ◌∙◌, subst}
use Rattle.em_step.specs.Event.{plain}
use Rattle.em_c.specs.Refused.{number_of}
use Rattle.em_c.specs.Run.{Runs, Stops}
use Rattle.em_c.proofs.run.run.Goals as goal

-- what is held is the machine that was taken out, and then that which was put in
pub returns-in-None : goal.returns-in-None
returns-in-None c =
    let stops = subst (λ stop. Stops c.repeat-count.result.0 c.args.n (plain c.args.event) c.deref_mut.result.now
    c.repeat-count.new.self stop) c.in-None.is c.repeat-count.ensures in
    subst (λ held. Runs held (plain c.args.event) c.args.n c.args.done.now 0 c.repeat-count.result.0
    c.put.new.self.sealed.held)
    (ap Some c.deref_mut.ensures.value ∙ sym c.in-Ok.ensures.some) (_, None, stops, refl, c.put.ensures)

pub returns-in-Some : goal.returns-in-Some
returns-in-Some c =
    let stops = subst (λ stop. Stops c.repeat-count.result.0 c.args.n (plain c.args.event) c.deref_mut.result.now
    c.repeat-count.new.self stop) c.in-Some.is c.repeat-count.ensures in
    let code = c.number-in-Some.ensures ∙ ap number_of c.of_event.ensures in
    subst (λ held. Runs held (plain c.args.event) c.args.n c.args.done.now c.number-in-Some.result
    c.repeat-count.result.0 c.put.new.self.sealed.held)
    (ap Some c.deref_mut.ensures.value ∙ sym c.in-Ok.ensures.some)
    (_, Some c.in-Some.refusal, stops, code, c.put.ensures)
