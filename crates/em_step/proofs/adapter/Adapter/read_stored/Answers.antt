use Rattle.std.proofs.Common.{refl, ap, rules, ◌∙◌}
use Rattle.em_regs.specs.RegFile.{at}
use Rattle.em_regs.specs.Table.{offset_of}
use Rattle.em_step.proofs.Registers.{reads_stored}
use Rattle.em_step.proofs.ReversalLaws.{plain_of}
use Rattle.em_step.proofs.adapter.Adapter.read_stored.Goals as goal

pub returns : goal.returns
returns c = record {
  plain = plain_of c.of_effect.ensures refl (λ o. tt);
  performed = λ o. record {
    ok = reads_stored _ c.args.self.now c.args.reg c.self.view_is c.requires.stored c.requires.has
        (c.look.ensures ∙ ap (λ file. at file (offset_of c.args.reg)) c.deref.ensures);
    cost = search rules;
    reverses = search rules;
  };
}
