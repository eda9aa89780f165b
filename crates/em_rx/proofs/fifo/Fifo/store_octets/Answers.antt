use Rattle.std.proofs.Common.{arith}
use Rattle.em_mem.proofs.OldOctetsLaws.{keeps}
use Rattle.em_rx.proofs.fifo.Fifo.store_octets.Goals as goal

pub returns-clause-keeps : goal.returns-clause-keeps
returns-clause-keeps c =
    keeps c.args.old.now c.make_room.new.self c.put_last.new.old
    (λ fits. c.make_room.ensures.ready (omega (arith, fits, c.put_last.ensures.held)))
    c.put_last.ensures.saves
