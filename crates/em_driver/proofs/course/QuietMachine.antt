-- The accesses of a machine on which nobody else acts.
use Rattle.std.proofs.Common.{ℕ, List, [], refl, sym, subst, inl}
use Rattle.em_step.specs.Event.{Event, pokes}
use Rattle.em_step.specs.declared.event.Answer.{Answer}
use Rattle.em_step.specs.declared.event.Answer.TheVariants.{Done}
use Rattle.em_step.specs.declared.refusal.Refusal.{Refusal}
use Rattle.em_journal.specs.History.{performs, refuses, Does}
use Rattle.em_journal.specs.View.{View}
use Rattle.em_driver.specs.World.{quiet, Passes, Accesses, IsRefused}
use Rattle.em_driver.proofs.course.WriteAnswers.{poke_answer}

pub quiet_passes : (m : View) → Passes (quiet m) (quiet m)
quiet_passes m = record { turns = []; taken = inl (refl, refl, refl); events = []; spare = refl; is = refl }

pub quiet_access : (v w : View) (e : Event) (answer : Answer) → Does v (performs e answer) w
    → Accesses (quiet v) e answer (quiet w)
quiet_access v w e answer did = record { mid = quiet v; passes = quiet_passes v; does = did; is = refl }

pub quiet_refusal : (v w : View) (e : Event) (refusal : Refusal) → Does v (refuses e refusal) w
    → IsRefused (quiet v) e refusal (quiet w)
quiet_refusal v w e refusal did =
    subst (λ x. IsRefused (quiet v) e refusal (quiet x)) (sym did.1)
    record { passes = quiet_passes v; refuses = did.0; asked = λ want. refl }

pub quiet_poke : (v w : View) (addr : ℕ) (octets : List ℕ) (answer : Answer)
    → Does v (performs (pokes addr octets) answer) w
    → Accesses (quiet v) (pokes addr octets) Done (quiet w)
quiet_poke v w addr octets answer did =
    let e = pokes addr octets in
    subst (λ a. Accesses (quiet v) e a (quiet w)) (poke_answer v.present w.present addr octets answer did.0)
    (quiet_access v w e answer did)
