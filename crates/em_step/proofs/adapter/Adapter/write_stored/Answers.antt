use Rattle.std.proofs.Common.{refl, ap, rules, sym, ◌∙◌}
use Rattle.em_regs.specs.declared.table.Kind.TheVariants.{Stored}
use Rattle.em_regs.specs.RegFile.{put_in}
use Rattle.em_step.specs.Cells.{shows}
use Rattle.em_step.specs.Cost.{cost_of}
use Rattle.em_step.specs.Undo.{undo_of}
use Rattle.em_step.proofs.Registers.{costs_by, only_stored, writes_stored}
use Rattle.em_step.proofs.ReversalLaws.{plain_of}
use Rattle.em_step.proofs.adapter.Adapter.write_stored.Goals as goal

pub put_in-old-requires : goal.put_in-old-requires
put_in-old-requires c = only_stored c.args.reg c.requires.only

pub returns : goal.returns
returns c = record {
  plain = plain_of c.of_effect.ensures refl (λ o. tt);
  performed = λ o. record {
    ok = writes_stored _ c.args.self.now c.args.reg c.args.value c.self.view_is c.requires.only c.requires.has
        (c.put_in-old.ensures.state ∙ ap (λ file. put_in c.self.inside.profile file c.args.reg c.args.value) c.deref_mut.ensures.value);
    cost = ap (λ r. cost_of (undo_of r o)) c.of_effect.ensures
        ∙ sym (costs_by Stored (shows c.args.self.now) c.args.reg c.args.value c.requires.only.0 c.requires.only.1);
    reverses = search rules;
  };
}
