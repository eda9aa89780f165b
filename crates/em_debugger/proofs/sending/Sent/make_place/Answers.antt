use Rattle.std.proofs.Common.{◌∙◌, ap}
use Rattle.em_debugger.specs.Sending.{first_of}
use Rattle.em_debugger.proofs.SendingLaws.{first-pushed}
use Rattle.em_debugger.proofs.sending.Sent.make_place.Goals as goal

pub loop-self-preserved : goal.loop-self-preserved
loop-self-preserved c n =
    ap (first_of n) c.in_ok-push.ensures.items ∙ first-pushed n c.loop-self.self.firsts.items ∙ c.loop-self.invariant n
