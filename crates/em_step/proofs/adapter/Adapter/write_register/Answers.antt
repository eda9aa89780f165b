use Rattle.std.proofs.Common.{refl, sym, ap, rules, subst, IsTrue, ◌∙◌}
use Rattle.em_regs.specs.declared.table.Row.{Row}
use Rattle.em_regs.specs.declared.table.Kind.TheVariants.{Control, EepromRead, EepromPins, PhyCommand, Status, Uncounted}
use Rattle.em_step.specs.Access.{is_reset_by}
use Rattle.em_step.specs.Cost.{cost_of}
use Rattle.em_step.specs.Undo.{undo_of}
use Rattle.em_step.specs.Cells.{shows}
use Rattle.em_step.proofs.Registers.{costs_by, write_refuses, writes_by}
use Rattle.em_step.proofs.ResultLaws.{if_all, refused_so}
use Rattle.em_step.proofs.ReversalLaws.{plain_of}
use Rattle.em_step.proofs.adapter.Adapter.write_register.Goals as goal

pub returns-in-Control-clause-ok : goal.returns-in-Control-clause-ok
returns-in-Control-clause-ok c =
    let s = shows c.args.self.now in
    let kind = ap (λ (row : Row). row.kind) (sym c.row.ensures) ∙ c.in-Control.is in
    let did = c.write_control.ensures in
    if_all c.write_control.result
    (λ state undo cost reverses. record {
      plain = reverses.plain;
      performed = λ o. record {
        ok = writes_by Control s c.args.reg c.args.value c.requires.0 c.requires.1 kind state;
        cost = cost o ∙ sym (costs_by Control s c.args.reg c.args.value c.requires.0 kind);
        reverses = reverses.takes_back o;
      };
    })
    did.state did.cost did.reverses

pub returns-in-Control-clause-err : goal.returns-in-Control-clause-err
returns-in-Control-clause-err c =
    let kind = ap (λ (row : Row). row.kind) (sym c.row.ensures) ∙ c.in-Control.is in
    refused_so c.write_control.result c.args.self.now _ _
    (λ e why. write_refuses (shows c.args.self.now) c.args.reg c.args.value e c.requires.0 c.requires.1
    (why.0, subst (λ k. IsTrue (is_reset_by k c.args.value)) (sym kind) why.1))
    c.write_control.ensures.err c.write_control.ensures.same

pub returns-in-EepromRead-clause-ok : goal.returns-in-EepromRead-clause-ok
returns-in-EepromRead-clause-ok c =
    let s = shows c.args.self.now in
    let kind = ap (λ (row : Row). row.kind) (sym c.row.ensures) ∙ c.in-EepromRead.is in
    record {
      plain = plain_of c.of_effect.ensures refl (λ o. tt);
      performed = λ o. record {
        ok = writes_by EepromRead s c.args.reg c.args.value c.requires.0 c.requires.1 kind c.write_eerd.ensures.state;
        cost = ap (λ r. cost_of (undo_of r o)) c.of_effect.ensures ∙ sym (costs_by EepromRead s c.args.reg c.args.value c.requires.0 kind);
        reverses = search rules;
      };
    }

pub returns-in-Status-clause-ok : goal.returns-in-Status-clause-ok
returns-in-Status-clause-ok c =
    let s = shows c.args.self.now in
    let kind = ap (λ (row : Row). row.kind) (sym c.row.ensures) ∙ c.in-Status.is in
    record {
      plain = plain_of c.of_effect-in-Status.ensures refl (λ o. tt);
      performed = λ o. record {
        ok = writes_by Status s c.args.reg c.args.value c.requires.0 c.requires.1 kind refl;
        cost = ap (λ r. cost_of (undo_of r o)) c.of_effect-in-Status.ensures
            ∙ sym (costs_by Status s c.args.reg c.args.value c.requires.0 kind);
        reverses = search rules;
      };
    }

pub returns-in-Uncounted-clause-ok : goal.returns-in-Uncounted-clause-ok
returns-in-Uncounted-clause-ok c =
    let s = shows c.args.self.now in
    let kind = ap (λ (row : Row). row.kind) (sym c.row.ensures) ∙ c.in-Uncounted.is in
    record {
      plain = plain_of c.of_effect-in-Uncounted.ensures refl (λ o. tt);
      performed = λ o. record {
        ok = writes_by Uncounted s c.args.reg c.args.value c.requires.0 c.requires.1 kind refl;
        cost = ap (λ r. cost_of (undo_of r o)) c.of_effect-in-Uncounted.ensures
            ∙ sym (costs_by Uncounted s c.args.reg c.args.value c.requires.0 kind);
        reverses = search rules;
      };
    }

pub returns-in-EepromPins-clause-ok : goal.returns-in-EepromPins-clause-ok
returns-in-EepromPins-clause-ok c =
    let s = shows c.args.self.now in
    let kind = ap (λ (row : Row). row.kind) (sym c.row.ensures) ∙ c.in-EepromPins.is in
    let did = c.write_pins.ensures in
    record {
      plain = did.reverses.plain;
      performed = λ o. record {
        ok = writes_by EepromPins s c.args.reg c.args.value c.requires.0 c.requires.1 kind did.state;
        cost = did.cost o ∙ sym (costs_by EepromPins s c.args.reg c.args.value c.requires.0 kind);
        reverses = did.reverses.takes_back o;
      };
    }

pub returns-in-PhyCommand-clause-ok : goal.returns-in-PhyCommand-clause-ok
returns-in-PhyCommand-clause-ok c =
    let s = shows c.args.self.now in
    let kind = ap (λ (row : Row). row.kind) (sym c.row.ensures) ∙ c.in-PhyCommand.is in
    let did = c.command_phy.ensures in
    record {
      plain = did.reverses.plain;
      performed = λ o. record {
        ok = writes_by PhyCommand s c.args.reg c.args.value c.requires.0 c.requires.1 kind did.state;
        cost = did.cost o ∙ sym (costs_by PhyCommand s c.args.reg c.args.value c.requires.0 kind);
        reverses = did.reverses.takes_back o;
      };
    }
