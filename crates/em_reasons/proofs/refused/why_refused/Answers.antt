use Rattle.std.proofs.Common.{◌≡◌, Some, Err, subst, sym}
use Rattle.em_step.specs.declared.event.Event.{Event}
use Rattle.em_step.specs.declared.refusal.Refusal.TheVariants.{Memory}
use Rattle.em_step.specs.Event.{plain}
use Rattle.em_step.specs.Step.{step}
use Rattle.em_reasons.specs.declared.refused.Refused.TheVariants as refused
use Rattle.em_reasons.specs.Refused.{why}
use Rattle.em_reasons.proofs.RefusalLemmas.{never_memory, receive_refused, transmit_refused}
use Rattle.em_reasons.proofs.refused.why_refused.Goals as goal
use Rattle.em_reasons.proofs.refused.why_refused.Goals.{in-Memory, in_default}

pub returns-then-matches-clause-first : goal.returns-then-matches-clause-first
returns-then-matches-clause-first c =
    let is : c.args.refusal ≡ Memory
    = elim c.match-matches.branch [
      | in-Memory w ↦ w.in-Memory.is
      | in_default w ↦ let no = w.matches-is in let yes = c.if-matches.true in cc
    ] in
    never_memory c.args.machine.now.present (plain c.args.event) c.args.refusal refused.Memory is

pub returns-in-RxStep-clause-first : goal.returns-in-RxStep-clause-first
returns-in-RxStep-clause-first c =
    let s = c.args.machine.now.present in
    subst (λ (e : Event). step s (plain e) ≡ Err c.args.refusal → why s (plain e) ≡ Some c.refused_receive.result)
    (sym c.in-RxStep.is) (receive_refused s c.args.refusal c.refused_receive.result c.refused_receive.ensures)

pub returns-in-TxStep-clause-first : goal.returns-in-TxStep-clause-first
returns-in-TxStep-clause-first c =
    let s = c.args.machine.now.present in
    subst (λ (e : Event). step s (plain e) ≡ Err c.args.refusal → why s (plain e) ≡ Some c.refused_transmit.result)
    (sym c.in-TxStep.is) (transmit_refused s c.args.refusal c.refused_transmit.result c.refused_transmit.ensures)
