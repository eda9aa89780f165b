-- The state of a device as a driver keeps it, which nobody else writes to.
use Rattle.std.specs.Prelude.{◌≡◌, ◌≢◌, ℕ, ◌*◌, ◌<◌, ◌≤◌, Bool, true, false, All, List, [], length, slice_index}
use Rattle.byteorder.specs.Endian.{little_number}
use Rattle.em_mem.specs.Memory.{part}
use Rattle.em_regs.specs.Setup.{value_of, pair}
use Rattle.em_regs.specs.declared.reg.Reg.TheVariants.{Rctl, Rdbal, Rdbah, Rdlen, Rdh, Rdt}
use Rattle.em_regs.specs.declared.reg.Reg.TheVariants.{Tctl, Tdbal, Tdbah, Tdlen, Tdh, Tdt}
use Rattle.em_regs.specs.declared.profile.Profile.TheVariants.{Table}
use Rattle.em_filter.specs.Bits.{vme}
use Rattle.em_step.specs.State.{State}
use Rattle.em_step.specs.Whole.{IsPlain}
use Rattle.em_driver.specs.Descriptor.{length_of, is_done}
use Rattle.em_driver.specs.Layout.{IsGoodLayout, IsPlaced}
use Rattle.em_driver.specs.Places.{is_among}
use Rattle.em_regs.specs.Ring.{following}
use Rattle.em_driver.specs.Receive.{rx_descriptor, rx_buffer}
use Rattle.em_driver.specs.Transmit.{tx_descriptor, tx_buffer}
use Rattle.em_driver.specs.declared.layout.Layout.{Layout}

-- the four indices
abbrev pub rdh : State → ℕ
rdh s = value_of s.registers Rdh

abbrev pub rdt : State → ℕ
rdt s = value_of s.registers Rdt

abbrev pub tdh : State → ℕ
tdh s = value_of s.registers Tdh

abbrev pub tdt : State → ℕ
tdt s = value_of s.registers Tdt

-- the 16 octets of descriptor i
abbrev pub rx_at : Layout → State → ℕ → List ℕ
rx_at l s i = part s.memory (rx_descriptor l i) 16

abbrev pub tx_at : Layout → State → ℕ → List ℕ
tx_at l s i = part s.memory (tx_descriptor l i) 16

-- ---- receiving

-- the first descriptor that the driver has not yet given back: the one after RDT
abbrev pub first : Layout → State → ℕ
first l s = following l.rx_count (rdt s)

-- the adapter has filled descriptor i: it is one of those from the first up to but not RDH
abbrev pub is_filled : Layout → State → ℕ → Bool
is_filled l s i = is_among l.rx_count (first l s) (rdh s) i

-- a filled descriptor has the status 07h: DD, EOP and IXSM; in any other DD is clear
abbrev pub IsMarked : Bool → List ℕ → Type 0
IsMarked true d = slice_index d 12 ≡ 0x07
IsMarked false d = is_done d ≡ false

-- a length of 60 to 1,518
pub record IsUsualLength (n : ℕ) : Type 0 where
  pub least : 60 ≤ n
  pub most : n ≤ 1518

-- The receive side as a driver keeps it, but for the status of the first descriptor at most: the ring and RCTL as
-- `start` wrote them, frames stored as they came (the second profile stores their check sequences, and a tag is taken
-- out with VME), each descriptor with its own buffer, those that are filled
-- with their lengths and marked, and whole plain frames in the FIFO.
pub record IsReceivingBut (l : Layout) (s : State) : Type 0 where
  pub rctl : value_of s.registers Rctl ≡ 0x0000_801A
  pub base : pair s.registers Rdbah Rdbal ≡ l.rx_ring
  pub len : value_of s.registers Rdlen ≡ 16 * l.rx_count
  pub head : rdh s < l.rx_count
  pub tail : rdt s < l.rx_count
  pub untagged : vme s.registers ≡ false
  pub profile : s.profile ≡ Table
  pub addresses : (i : ℕ) → i < l.rx_count → little_number 8 (rx_at l s i) ≡ rx_buffer l i
  pub lengths : (i : ℕ) → i < l.rx_count → is_filled l s i ≡ true → IsUsualLength (length_of (rx_at l s i))
  pub marks : (i : ℕ) → i < l.rx_count → i ≢ first l s → IsMarked (is_filled l s i) (rx_at l s i)
  pub frames : All IsPlain s.fifo.frames
  pub taken : s.fifo.taken ≡ 0

-- the first descriptor is marked too
abbrev pub IsFirstMarked : Layout → State → Type 0
IsFirstMarked l s = IsMarked (is_filled l s (first l s)) (rx_at l s (first l s))

-- ---- sending

-- descriptor i waits to be sent: it is one of those from TDH up to but not TDT
abbrev pub is_queued : Layout → State → ℕ → Bool
is_queued l s i = is_among l.tx_count (tdh s) (tdt s) i

-- a descriptor of a packet of 14 to 1,518 octets: CMD 0Bh, which is EOP, IFCS and RS
pub record IsOfPacket (d : List ℕ) : Type 0 where
  pub command : slice_index d 11 ≡ 0x0B
  pub least : 14 ≤ length_of d
  pub most : length_of d ≤ 1518

-- The transmit side as a driver keeps it: the ring and TCTL as `start` wrote them, no VLAN tag put into frames, each
-- descriptor with its own buffer, those that wait each with a packet, and nothing gathered.
pub record IsSending (l : Layout) (s : State) : Type 0 where
  pub tctl : value_of s.registers Tctl ≡ 0x0004_010A
  pub base : pair s.registers Tdbah Tdbal ≡ l.tx_ring
  pub len : value_of s.registers Tdlen ≡ 16 * l.tx_count
  pub head : tdh s < l.tx_count
  pub tail : tdt s < l.tx_count
  pub untagged : vme s.registers ≡ false
  pub addresses : (i : ℕ) → i < l.tx_count → little_number 8 (tx_at l s i) ≡ tx_buffer l i
  pub packets : (i : ℕ) → i < l.tx_count → is_queued l s i ≡ true → IsOfPacket (tx_at l s i)
  pub gathered : s.gathered ≡ []

-- ---- both

-- a driver can use the layout in the memory
abbrev pub IsGoodFor : State → Layout → Type 0
IsGoodFor s l = IsGoodLayout s.base (length s.memory) l

-- it can, and the layout's addresses are 64-bit numbers
pub record IsLaidOut (l : Layout) (s : State) : Type 0 where
  pub good : IsGoodFor s l
  pub placed : IsPlaced l

-- as a driver keeps it, but for the status octet of descriptor RDT + 1 at most
pub record IsDrivenBut (l : Layout) (s : State) : Type 0 where
  pub layout : IsLaidOut l s
  pub receiving : IsReceivingBut l s
  pub sending : IsSending l s

-- as a driver with this layout keeps it
pub record IsDriven (l : Layout) (s : State) : Type 0 where
  pub but : IsDrivenBut l s
  pub marked : IsFirstMarked l s
