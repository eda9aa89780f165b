use Rattle.std.proofs.Common.{refl, ap, rules, sym, ◌∙◌}
use Rattle.em_regs.specs.declared.table.Row.{Row}
use Rattle.em_regs.specs.declared.table.Kind.TheVariants.{EepromPins, PhyCommand, Status, Uncounted}
use Rattle.em_step.specs.Cells.{Cells, shows}
use Rattle.em_step.proofs.Registers.{reads_by}
use Rattle.em_step.proofs.ReversalLaws.{plain_of}
use Rattle.em_step.proofs.adapter.Adapter.read_register.Goals as goal

pub returns-in-Status : goal.returns-in-Status
returns-in-Status c =
    let kind = ap (λ (row : Row). row.kind) (sym c.row.ensures) ∙ c.in-Status.is in
    record {
      plain = plain_of c.of_effect.ensures refl (λ o. tt);
      performed = λ o. record {
        ok = reads_by Status (shows c.args.self.now) c.args.reg c.requires.0 c.requires.1 kind refl c.status.ensures;
        cost = search rules;
        reverses = search rules;
      };
    }

pub returns-in-Uncounted : goal.returns-in-Uncounted
returns-in-Uncounted c =
    let kind = ap (λ (row : Row). row.kind) (sym c.row.ensures) ∙ c.in-Uncounted.is in
    record {
      plain = plain_of c.of_effect-in-Uncounted.ensures refl (λ o. tt);
      performed = λ o. record {
        ok = reads_by Uncounted (shows c.args.self.now) c.args.reg c.requires.0 c.requires.1 kind refl refl;
        cost = search rules;
        reverses = search rules;
      };
    }

pub returns-in-EepromPins : goal.returns-in-EepromPins
returns-in-EepromPins c =
    let kind = ap (λ (row : Row). row.kind) (sym c.row.ensures) ∙ c.in-EepromPins.is in
    record {
      plain = plain_of c.of_effect-in-EepromPins.ensures refl (λ o. tt);
      performed = λ o. record {
        ok = reads_by EepromPins (shows c.args.self.now) c.args.reg c.requires.0 c.requires.1 kind refl
            c.told_by_pins.ensures;
        cost = search rules;
        reverses = search rules;
      };
    }

pub returns-in-PhyCommand : goal.returns-in-PhyCommand
returns-in-PhyCommand c =
    let kind = ap (λ (row : Row). row.kind) (sym c.row.ensures) ∙ c.in-PhyCommand.is in
    record {
      plain = plain_of c.of_effect-in-PhyCommand.ensures refl (λ o. tt);
      performed = λ o. record {
        ok = reads_by PhyCommand (shows c.args.self.now) c.args.reg c.requires.0 c.requires.1 kind refl
            (c.read.ensures ∙ ap (λ (x : Cells). x.phy.mdic) c.self.view_is);
        cost = search rules;
        reverses = search rules;
      };
    }
