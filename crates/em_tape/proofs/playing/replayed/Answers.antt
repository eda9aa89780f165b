use Rattle.std.proofs.Common.{true, length, subst}
use Rattle.em_tape.specs.Texts.{texts}
use Rattle.em_tape.specs.Known.{IsKnown}
use Rattle.em_tape.proofs.playing.replayed.Goals as goal

pub returns-in-Ok-replay-clause-ok : goal.returns-in-Ok-replay-clause-ok
returns-in-Ok-replay-clause-ok c =
    subst (λ s. IsKnown s (texts c.args.lines.now) c.args.did.now true c.replay.new.known.items (length c.args.lines.now) 0
    c.replay.new.session) c.in-Ok.ensures.ok c.in-Ok-replay.ensures.ok
