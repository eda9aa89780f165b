use Rattle.std.proofs.Common.{◌∙◌, ap}
use Rattle.em_tape.specs.Texts.{texts}
use Rattle.em_debugger.specs.Told.{told_of}
use Rattle.em_debugger.proofs.ToldLaws.{told-pushed}
use Rattle.em_debugger.proofs.told.Told.make_ready.Goals as goal

pub loop-self-preserved : goal.loop-self-preserved
loop-self-preserved c n =
    ap (λ items. told_of n (texts items)) c.in_ok-push.ensures.items
    ∙ told-pushed n c.loop-self.self.answers.items c.new.result c.new.ensures.items ∙ c.loop-self.invariant n
