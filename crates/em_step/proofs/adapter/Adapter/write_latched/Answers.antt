use Rattle.std.proofs.Common.{refl, ap, rules, sym, ◌∙◌}
use Rattle.em_step.specs.Cells.{shows}
use Rattle.em_step.specs.Cost.{cost_of}
use Rattle.em_step.specs.Undo.{undo_of}
use Rattle.em_step.proofs.Registers.{latched_costs, writes_latched}
use Rattle.em_step.proofs.ReversalLaws.{plain_of}
use Rattle.em_step.proofs.adapter.Adapter.write_latched.Goals as goal

pub returns : goal.returns
returns c = record {
  plain = plain_of c.of_latches.ensures refl (λ o. tt);
  performed = λ o. record {
    ok = writes_latched _ c.args.self.now c.args.reg c.args.value c.self.view_is c.requires.reg c.requires.latched
        c.requires.has c.write.ensures.state;
    cost = ap (λ r. cost_of (undo_of r o)) c.of_latches.ensures
        ∙ sym (latched_costs (shows c.args.self.now) c.args.reg c.args.value c.requires.reg c.requires.latched);
    reverses = search rules;
  };
}
