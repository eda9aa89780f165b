-- The courses of the small calls.
use Rattle.std.specs.Prelude.{ℕ, ◌+◌, ◌*◌, ◌/◌, ◌%◌, ◌==◌, min, if◌then◌else◌, List, [], ◌∷◌, drop, ⊤}
use Rattle.byteorder.specs.Endian.{little_number}
use Rattle.em_regs.specs.declared.reg.Reg.TheVariants.{Ral, Rah, Status, Gprc, Gptc, Gorcl, Gorch, Gotcl, Gotch}
use Rattle.em_driver.specs.Course.{Course, done, read, write}
use Rattle.em_driver.specs.declared.stats.DeviceStats.{DeviceStats}

-- the six octets that RAL and RAH hold, RAL's lowest first
abbrev pub address_in : ℕ → ℕ → List ℕ
address_in low high =
    low % 0x100 ∷ low / 0x100 % 0x100 ∷ low / 0x1_0000 % 0x100 ∷ low / 0x100_0000 % 0x100
    ∷ high % 0x100 ∷ high / 0x100 % 0x100 ∷ []

-- get_mac_addr reads RAL 0 and RAH 0
abbrev pub get_mac_addr : Course (List ℕ)
get_mac_addr = read (Ral 0) (λ low. read (Rah 0) (λ high. done (address_in low high)))

-- set_mac_addr writes the six octets to RAL 0, the lowest first, and to RAH 0 with AV
abbrev pub set_mac_addr : List ℕ → Course ⊤
set_mac_addr octets =
    write (Ral 0) (little_number 4 octets) (write (Rah 0) (little_number 2 (drop 4 octets) + 0x8000_0000) (done tt))

-- the speed that STATUS holds, in Mb/s: 0 with LU clear, and else by SPEED
abbrev pub speed_in : ℕ → ℕ
speed_in status =
    if status / 2 % 2 == 0 then 0
    else if status / 64 % 4 == 0 then 10
    else if status / 64 % 4 == 1 then 100
    else 1000

-- get_link_speed reads STATUS
abbrev pub get_link_speed : Course ℕ
get_link_speed = read Status (λ status. done (speed_in status))

-- a sum that stops at the greatest 64-bit number
abbrev pub added : ℕ → ℕ → ℕ
added a b = min (a + b) 0xFFFF_FFFF_FFFF_FFFF

-- what was counted so far, and what the counters then gave
abbrev pub more_stats : DeviceStats → ℕ → ℕ → ℕ → ℕ → DeviceStats
more_stats stats rx_pkts tx_pkts rx_bytes tx_bytes = record {
  rx_pkts = added stats.rx_pkts rx_pkts;
  tx_pkts = added stats.tx_pkts tx_pkts;
  rx_bytes = added stats.rx_bytes rx_bytes;
  tx_bytes = added stats.tx_bytes tx_bytes;
}

-- read_stats reads the counters of good packets and octets, and adds them
abbrev pub read_stats : DeviceStats → Course DeviceStats
read_stats stats =
    read Gprc (λ rx_pkts. read Gptc (λ tx_pkts.
    read Gorcl (λ rx_low. read Gorch (λ rx_high.
    read Gotcl (λ tx_low. read Gotch (λ tx_high.
    done (more_stats stats rx_pkts tx_pkts (rx_low + 0x1_0000_0000 * rx_high) (tx_low + 0x1_0000_0000 * tx_high))))))))

-- reset_stats reads them too, which clears them
abbrev pub reset_stats : Course ⊤
reset_stats =
    read Gprc (λ rx_pkts. read Gptc (λ tx_pkts.
    read Gorcl (λ rx_low. read Gorch (λ rx_high.
    read Gotcl (λ tx_low. read Gotch (λ tx_high. done tt))))))
