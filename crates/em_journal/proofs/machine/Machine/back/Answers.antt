-- The newest record takes its event back, and its octets are given up.
use Rattle.std.proofs.Common.{◌≤◌, ◌-◌, ◌∷◌, ◌∙◌, length, sym, ap, subst, arith}
use Rattle.em_mem.specs.OldOctets.{given_up}
use Rattle.em_step.specs.Undo.{Fits, held, undo, undo_of}
use Rattle.em_journal.specs.Records.{places_in, undos_of, view_of}
use Rattle.em_journal.proofs.RecordsLaws.{AreFields, back_does, gone_back, newest_fits, newest_is, newest_of}
use Rattle.em_journal.proofs.machine.Machine.back.Goals as goal

pub put_back-requires-clause-room : goal.put_back-requires-clause-room
put_back-requires-clause-room c =
    let r = c.in-Some.newest in
    let fields = newest_of r (sym c.pop_front.ensures.value ∙ c.in-Some.is) c.self.invariant in
    subst (λ x. held r ≤ length x.octets) (sym c.newest.ensures) (newest_fits fields).0

pub put_back-requires-clause-fits : goal.put_back-requires-clause-fits
put_back-requires-clause-fits c =
    let r = c.in-Some.newest in
    let fields = newest_of r (sym c.pop_front.ensures.value ∙ c.in-Some.is) c.self.invariant in
    subst (λ x. Fits c.self.inside.adapter (undo_of r x)) (sym c.newest.ensures) (newest_fits fields).1.0

pub overflow_sub-self : goal.overflow_sub-self
overflow_sub-self c =
    let fields = newest_of c.in-Some.newest (sym c.pop_front.ensures.value ∙ c.in-Some.is) c.self.invariant in
    omega (arith, (newest_fits fields).1.1, c.from.ensures, c.cost-cost.ensures.cost)

pub invariant_of-self : goal.invariant_of-self
invariant_of-self c =
    let r = c.in-Some.newest in
    let octets = c.self.inside.records.octets in
    let fields = newest_of r (sym c.pop_front.ensures.value ∙ c.in-Some.is) c.self.invariant in
    let back = c.put_back.ensures ∙ ap (λ x. undo c.self.inside.adapter (undo_of r x)) c.newest.ensures in
    let given = c.give_up.ensures.given ∙ ap (λ n. given_up n octets) c.held-held.ensures.held in
    subst (λ b. AreFields c.put_back.new.self b.items c.give_up.new.self c.self.inside.records.waits
    (places_in b.capacity c.self.inside.records.larger) c.self.inside.budget
    (c.self.inside.records.used - c.from.result)) (sym c.pop_front.ensures.items)
    (gone_back fields back given (omega (arith, (newest_fits fields).1.1, c.from.ensures, c.cost-cost.ensures.cost)))

pub returns-in-Some-clause-ok : goal.returns-in-Some-clause-ok
returns-in-Some-clause-ok c =
    let r = c.in-Some.newest in
    let octets = c.self.inside.records.octets in
    let items = newest_is c.self.inside.records.ring.items r (sym c.pop_front.ensures.value ∙ c.in-Some.is) in
    let rest = ap (λ b. b.items) c.pop_front.ensures.items in
    let back = c.put_back.ensures ∙ ap (λ x. undo c.self.inside.adapter (undo_of r x)) c.newest.ensures in
    let given = c.give_up.ensures.given ∙ ap (λ n. given_up n octets) c.held-held.ensures.held in
    back_does c.self.inside.adapter c.put_back.new.self r c.pop_front.new.self.items octets c.give_up.new.self
    c.self.inside.budget back given
    (ap (λ xs. view_of c.self.inside.budget c.self.inside.adapter (undos_of (r ∷ xs) octets)) rest
    ∙ ap (λ xs. view_of c.self.inside.budget c.self.inside.adapter (undos_of xs octets)) (sym items) ∙ c.self.view_is)
