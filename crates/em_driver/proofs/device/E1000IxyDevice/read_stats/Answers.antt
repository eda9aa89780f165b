use Rattle.std.proofs.Common.{◌≡◌, ◌∙◌, ℕ, refl, ap}
use Rattle.em_driver.specs.Calls.{added}
use Rattle.em_driver.specs.declared.stats.DeviceStats.{DeviceStats}
use Rattle.em_driver.proofs.course.CourseSteps.{ends_with, reads_on}
use Rattle.em_driver.proofs.order.OtherCalls.{read_stats_order}
use Rattle.em_driver.proofs.device.E1000IxyDevice.read_stats.Goals as goal

same_stats : {a b c d p q r s : ℕ} → a ≡ p → b ≡ q → c ≡ r → d ≡ s
    → ◌≡◌ {A = DeviceStats} (record { rx_pkts = a; tx_pkts = b; rx_bytes = c; tx_bytes = d })
    (record { rx_pkts = p; tx_pkts = q; rx_bytes = r; tx_bytes = s })
same_stats e f g h = cc

pub returns-clause-course : goal.returns-clause-course
returns-clause-course g c =
    let before = c.args.stats.now in
    reads_on _ _ _ _ _ _ _ 5 _ c.read-rx_pkts.ensures refl
    (reads_on _ _ _ _ _ _ _ 4 _ c.read-tx_pkts.ensures refl
    (reads_on _ _ _ _ _ _ _ 3 _ c.read-rx_low.ensures refl
    (reads_on _ _ _ _ _ _ _ 2 _ c.read-rx_high.ensures refl
    (reads_on _ _ _ _ _ _ _ 1 _ c.read-tx_low.ensures refl
    (reads_on _ _ _ _ _ _ _ 0 _ c.read-tx_high.ensures refl
    (ends_with _ _ _ (same_stats
    (c.sum-stats.ensures ∙ ap (added before.rx_pkts) c.from.ensures)
    (c.sum-stats-2.ensures ∙ ap (added before.tx_pkts) c.from-2.ensures)
    (c.sum-stats-3.ensures ∙ ap (added before.rx_bytes) c.octets.ensures)
    (c.sum-stats-4.ensures ∙ ap (added before.tx_bytes) c.octets-2.ensures))))))))

pub returns-clause-order : goal.returns-clause-order
returns-clause-order g c = λ h. read_stats_order _ _ _ h (returns-clause-course g c)
