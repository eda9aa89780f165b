use Rattle.std.proofs.Common.{length, ap, arith}
use Rattle.em_journal.specs.Settings.{new_machine}
use Rattle.em_script.specs.Session.{Session, bare}
use Rattle.em_tape.proofs.KeptLaws.{holds_new}
use Rattle.em_tape.proofs.tape.Tape.new.Goals as goal

pub invariant_of-result : goal.invariant_of-result
invariant_of-result c =
    rw (c.new-in-Ok.ensures.items, c.new-in-Ok-2.ensures.items, c.new-in-Ok-3.ensures.items)
    (holds_new (bare (new_machine c.args.settings)) c.in-Ok.session c.in-Ok.ensures.ok
    (omega (arith, ap (λ (s : Session). length s.machine.past) c.in-Ok.ensures.ok)))
