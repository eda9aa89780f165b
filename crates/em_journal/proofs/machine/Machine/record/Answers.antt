-- Its octets lie where it says, behind those of the newer ones.
use Rattle.std.proofs.Common.{◌∙◌, ◌≤◌, Some, None, length, sym, ap, subst}
use Rattle.std.specs.Prelude.{IsNone, ◌↔◌}
use Rattle.em_step.specs.Undo.{Undo}
use Rattle.em_step.specs.declared.undo.Record.{Record}
use Rattle.em_journal.specs.Records.{undos_of}
use Rattle.em_journal.specs.View.{View}
use Rattle.em_journal.proofs.RecordLaws.{record_found, record_none}
use Rattle.em_journal.proofs.RecordsLaws.{length-back_through, length-undos_of}
use Rattle.em_journal.proofs.SavedLaws.{told}
use Rattle.em_journal.proofs.machine.Machine.record.Goals as goal

pub new-requires-clause-held : goal.new-requires-clause-held
new-requires-clause-held c =
    (told c.self.inside.records.ring.items c.args.k c.in_ok-found.found.now c.self.inside.records.octets
    c.self.invariant.1 (sym c.in_ok-found.ensures)).held

pub new-requires-clause-placed : goal.new-requires-clause-placed
new-requires-clause-placed c =
    (told c.self.inside.records.ring.items c.args.k c.in_ok-found.found.now c.self.inside.records.octets
    c.self.invariant.1 (sym c.in_ok-found.ensures)).placed

pub returns-clause-found : goal.returns-clause-found
returns-clause-found c =
    let undos = undos_of c.self.inside.records.ring.items c.self.inside.records.octets in
    let is = told c.self.inside.records.ring.items c.args.k c.in_ok-found.found.now c.self.inside.records.octets
    c.self.invariant.1 (sym c.in_ok-found.ensures) in
    record_found (Some c.new.result) (λ (u : Undo). u) c.self.inside.budget c.self.inside.adapter undos c.args.self.now
    c.args.k c.self.invariant.0.fit c.self.view_is (ap (λ (u : Undo). Some u) c.new.ensures ∙ sym is.undo)

pub returns-clause-none : goal.returns-clause-none
returns-clause-none c =
    let undos = undos_of c.self.inside.records.ring.items c.self.inside.records.octets in
    let is = told c.self.inside.records.ring.items c.args.k c.in_ok-found.found.now c.self.inside.records.octets
    c.self.invariant.1 (sym c.in_ok-found.ensures) in
    record_none (Some c.new.result) (λ (u : Undo). u) undos c.args.k (length c.args.self.now.past)
    (ap (λ (u : Undo). Some u) c.new.ensures ∙ sym is.undo)
    (ap (λ (v : View). length v.past) (sym c.self.view_is) ∙ length-back_through c.self.inside.adapter undos)

pub returns-in_err-found-clause-none : goal.returns-in_err-found-clause-none
returns-in_err-found-clause-none c =
    let items = c.self.inside.records.ring.items in
    let undos = undos_of items c.self.inside.records.octets in
    let size = ap (λ (v : View). length v.past) (sym c.self.view_is) ∙ length-back_through c.self.inside.adapter undos
    ∙ length-undos_of items c.self.inside.records.octets in
    subst (λ x. IsNone x ↔ length c.args.self.now.past ≤ c.args.k) (sym c.from_residual.ensures)
    (record_none None (λ (r : Record). r) items c.args.k (length c.args.self.now.past) c.in_err-found.ensures size)
