use Rattle.std.proofs.Common.{◌≡◌}
use Rattle.em_reasons.specs.TxIdle.{tx_idle}
use Rattle.em_reasons.proofs.IdleLemmas.{tx_idle_first, tx_idle_where}
use Rattle.em_reasons.proofs.tx_idle.why_tx_idle.Goals as goal

pub returns : goal.returns
returns c =
    let s = c.args.machine.now.present in
    let first : c.first_reason.result ≡ tx_idle s
    = tx_idle_first s c.first_reason.result c.ring_tx-ring.result c.is_halted.result c.ring_tx-ring.ensures
    c.is_halted.ensures c.first_reason.ensures in
    record { first = first; idle = tx_idle_where s c.first_reason.result first }
