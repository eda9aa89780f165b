use Rattle.std.proofs.Common.{arith}
use Rattle.em_tx.proofs.FrameLaws.{with_padding-resize}
use Rattle.em_tx.proofs.frame.pad.Goals as goal

pub returns-in-Ok-clause-items : goal.returns-in-Ok-clause-items
returns-in-Ok-clause-items c =
    with_padding-resize c.args.octets.now.items c.args.wanted c.if-wanted.true (omega arith) (omega arith)
    c.in-Ok.ensures.items
