-- The calls that neither hand over nor take packets.
use Rattle.std.proofs.Common.{ℕ, List, [], refl, arith}
use Rattle.std.specs.Prelude.{⊤}
use Rattle.em_regs.specs.Table.{offset_of}
use Rattle.em_regs.specs.declared.reg.Reg.TheVariants.{Ral, Rah}
use Rattle.em_regs.proofs.ProfileLaws.{reg_of-offset_of}
use Rattle.em_step.specs.declared.event.Answer.TheVariants.{Value}
use Rattle.em_driver.specs.Calls.{get_link_speed, get_mac_addr, read_stats, reset_stats, set_mac_addr}
use Rattle.em_driver.specs.Course.{Course, done, read, write, reset, peek, poke, room, Follows}
use Rattle.em_driver.specs.Order.{InOrder, IsUndisturbed}
use Rattle.em_driver.specs.World.{World}
use Rattle.em_driver.specs.declared.layout.Layout.{Layout}
use Rattle.em_driver.specs.declared.stats.DeviceStats.{DeviceStats}
use Rattle.em_driver.proofs.order.DrivenWorld.{order_on, order_none, order_read, order_write}

-- a course that reads registers alone
abbrev pub ReadsOnly : {A : Type 0} → Course A → Type 0
ReadsOnly (done answer) = Unit {0}
ReadsOnly (read reg next) = (value : ℕ) → ReadsOnly (next value)
ReadsOnly (write reg value more) = ⊥
ReadsOnly (reset stopped more) = ⊥
ReadsOnly (peek addr len stopped next) = ⊥
ReadsOnly (poke addr octets stopped more) = ⊥
ReadsOnly (room stopped more) = ⊥

pub reads_order : {A : Type 0} (l : Layout) (course : Course A) (w v : World) (events : ℕ) (a : A) → ReadsOnly course
    → IsUndisturbed l w → Follows w course events a v → InOrder l w v [] []
unfolding Follows
reads_order l (done answer) w v events a only h end = order_none l w v h end.world_is
reads_order l (read reg next) w v events a only h (value, step) =
    let one = order_read l w step.mid (offset_of reg) (Value value) h step.step in
    order_on l w step.mid v [] [] [] [] one
    (reads_order l (next value) step.mid v step.others a (only value) one.undisturbed step.more)
reads_order l (write reg value more) w v events a only h f = absurd only
reads_order l (reset stopped more) w v events a only h f = absurd only
reads_order l (peek addr len stopped next) w v events a only h f = absurd only
reads_order l (poke addr octets stopped more) w v events a only h f = absurd only
reads_order l (room stopped more) w v events a only h f = absurd only

pub get_mac_addr_order : {l : Layout} {w v : World} (events : ℕ) (a : List ℕ) → IsUndisturbed l w
    → Follows w get_mac_addr events a v → InOrder l w v [] []
get_mac_addr_order {l = l} {w = w} {v = v} events a h f = reads_order l get_mac_addr w v events a (λ low high. tt) h f

pub get_link_speed_order : {l : Layout} {w v : World} (events a : ℕ) → IsUndisturbed l w
    → Follows w get_link_speed events a v → InOrder l w v [] []
get_link_speed_order {l = l} {w = w} {v = v} events a h f = reads_order l get_link_speed w v events a (λ status. tt) h f

pub read_stats_order : {l : Layout} (stats : DeviceStats) {w v : World} (events : ℕ) (a : DeviceStats)
    → IsUndisturbed l w → Follows w (read_stats stats) events a v → InOrder l w v [] []
read_stats_order {l = l} stats {w = w} {v = v} events a h f =
    reads_order l (read_stats stats) w v events a (λ a b c d e f. tt) h f

pub reset_stats_order : {l : Layout} {w v : World} (events : ℕ) {a : ⊤} → IsUndisturbed l w
    → Follows w reset_stats events a v → InOrder l w v [] []
reset_stats_order {l = l} {w = w} {v = v} events {a = a} h f = reads_order l reset_stats w v events a (λ a b c d e f. tt) h f

pub set_mac_addr_order : {l : Layout} (octets : List ℕ) {w v : World} (events : ℕ) {a : ⊤} → IsUndisturbed l w
    → Follows w (set_mac_addr octets) events a v → InOrder l w v [] []
unfolding Follows
set_mac_addr_order {l = l} octets {w = w} {v = v} events h step =
    let one = order_write l w step.mid (Ral 0)
    (record { ctrl = λ e. omega arith; control = λ e. omega arith; ring = λ e. omega arith })
    (record { ctrl = λ e. omega arith; control = λ e. omega arith; ring = λ e. omega arith })
    (λ p. reg_of-offset_of p (Ral 0) (omega arith) refl) refl (λ x. refl) h step.step in
    let two = order_write l step.mid step.more.mid (Rah 0)
    (record { ctrl = λ e. omega arith; control = λ e. omega arith; ring = λ e. omega arith })
    (record { ctrl = λ e. omega arith; control = λ e. omega arith; ring = λ e. omega arith })
    (λ p. reg_of-offset_of p (Rah 0) (omega arith) refl) refl (λ x. refl) one.undisturbed step.more.step in
    order_on l w step.mid v [] [] [] [] one
    (order_on l step.mid step.more.mid v [] [] [] [] two
    (order_none l step.more.mid v two.undisturbed step.more.more.world_is))
