use Rattle.em_step.specs.Event.{plain}
use Rattle.em_debugger.proofs.WhyLaws.{would_come}
use Rattle.em_debugger.proofs.why_now.tried.Goals as goal

pub returns : goal.returns
returns c =
    rw c.in_ok-copy.ensures at
    (would_come c.in_ok-copy.copy c.perform.new.self (plain c.args.event) c.perform.result c.perform.ensures.ok
    c.perform.ensures.err)
