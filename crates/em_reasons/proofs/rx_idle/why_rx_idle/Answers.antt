use Rattle.std.proofs.Common.{◌≡◌}
use Rattle.em_reasons.specs.RxIdle.{rx_idle}
use Rattle.em_reasons.proofs.IdleLemmas.{rx_idle_first, rx_idle_where}
use Rattle.em_reasons.proofs.rx_idle.why_rx_idle.Goals as goal

pub returns : goal.returns
returns c =
    let s = c.args.machine.now.present in
    let first : c.first_reason.result ≡ rx_idle s
    = rx_idle_first s c.first_reason.result c.ring_rx-ring.result c.frames-frames.result c.ring_rx-ring.ensures
    c.frames-frames.ensures c.first_reason.ensures in
    record { first = first; idle = rx_idle_where s c.first_reason.result first }
