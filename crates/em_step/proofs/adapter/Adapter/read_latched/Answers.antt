use Rattle.std.proofs.Common.{refl, rules}
use Rattle.em_step.proofs.Registers.{reads_latched}
use Rattle.em_step.proofs.ReversalLaws.{plain_of}
use Rattle.em_step.proofs.adapter.Adapter.read_latched.Goals as goal

pub returns : goal.returns
returns c =
    let read = c.read-value.ensures in
    record {
      plain = plain_of c.of_latches.ensures refl (λ o. tt);
      performed = λ o. record {
        ok = reads_latched _ c.args.self.now c.args.reg c.self.view_is c.requires.reg c.requires.latched
            c.requires.has read.value read.state;
        cost = search rules;
        reverses = search rules;
      };
    }
