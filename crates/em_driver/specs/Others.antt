-- What others may do on a driver's bus: every event that writes none of the driver's registers and none of its memory.
use Rattle.std.specs.Prelude.{◌≢◌, ℕ, ◌*◌, ◌<◌, ◌≤◌, length}
use Rattle.em_step.specs.Event.{Event, writes, pokes}
use Rattle.em_driver.specs.Layout.{Apart}
use Rattle.em_driver.specs.declared.layout.Layout.{Layout}

-- The offset of none of the driver's registers. No read changes one of these, so a read may be of any register.
pub record IsNoDriverRegister (o : ℕ) : Type 0 where
  pub ctrl : o ≢ 0x00000
  pub vet : o ≢ 0x00038
  pub rctl : o ≢ 0x00100
  pub tctl : o ≢ 0x00400
  -- RDBAL, RDBAH, RDLEN, RDH and RDT lie from 02800h to 02818h
  pub rx_ring : 0x02800 ≤ o → 0x02818 < o
  -- TDBAL, TDBAH, TDLEN, TDH and TDT from 03800h to 03818h
  pub tx_ring : 0x03800 ≤ o → 0x03818 < o

-- n octets from a on, none of which is of the driver's rings or buffers
pub record IsNoDriverMemory (l : Layout) (a n : ℕ) : Type 0 where
  pub rx_ring : Apart a n l.rx_ring (16 * l.rx_count)
  pub rx_buffers : Apart a n l.rx_buffers (2048 * l.rx_count)
  pub tx_ring : Apart a n l.tx_ring (16 * l.tx_count)
  pub tx_buffers : Apart a n l.tx_buffers (2048 * l.tx_count)

-- an event that writes to neither
abbrev pub IsOthers : Layout → Event → Type 0
IsOthers l (writes o v) = IsNoDriverRegister o
IsOthers l (pokes a octets) = IsNoDriverMemory l a (length octets)
IsOthers l e = Unit {0}
