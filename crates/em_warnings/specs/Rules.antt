-- The rules by which a write of a register has warnings. Each is asked in the state that the write left.
use Rattle.std.specs.Prelude.{
  ℕ,
  ◌==◌,
  ◌&&◌,
  nat_le,
  nat_lt,
  ◌*◌,
  not,
  bit_and,
  if◌then◌else◌,
  Bool,
  true,
  false,
  List,
  [],
  ◌∷◌,
  Option,
  Some,
  None,
  option_and_then,
}
use Rattle.std.specs.Option.{option_map, option_or}
use Rattle.em_regs.specs.declared.reg.Reg.{Reg}
use Rattle.em_regs.specs.declared.reg.Reg.TheVariants as reg
use Rattle.em_regs.specs.declared.table.Kind.{Kind}
use Rattle.em_regs.specs.declared.table.Kind.TheVariants.{Stored}
use Rattle.em_regs.specs.Table.{mask_of, row_of}
use Rattle.em_regs.specs.Setup.{rx_setup, tx_setup}
use Rattle.em_step.specs.Access.{gives}
use Rattle.em_step.specs.State.{State}
use Rattle.em_journal.specs.View.{View}
use Rattle.em_inspect.specs.declared.ring.Side.{Side}
use Rattle.em_inspect.specs.declared.ring.Side.TheVariants.{Receive, Transmit}
use Rattle.em_inspect.specs.declared.ring.SidedRing.{SidedRing}
use Rattle.em_regs.specs.Ring.{descriptor_at}
use Rattle.em_warnings.specs.declared.flaw.Flaw.{Flaw}
use Rattle.em_warnings.specs.declared.flaw.Flaw.TheVariants as flaw
use Rattle.em_warnings.specs.declared.warning.Warning.{Warning}
use Rattle.em_warnings.specs.declared.warning.Warning.TheVariants as warning
use Rattle.em_warnings.specs.Descriptors.{first_flawed}
use Rattle.em_mem.specs.Memory.{leaves}
use Rattle.em_regs.specs.declared.ring.Ring.{Ring}
use Rattle.em_warnings.specs.Heads.{head_while_enabled, tail_past_head}
use Rattle.em_warnings.specs.Overlaps.{buffers_overlap}
use Rattle.em_warnings.specs.Rings.{length_of, ring_asked, ring_of_control, ring_of_tail, tail_of}

-- ---- bits-dropped (manual, chapter on register descriptions: the bits that each register has)

-- a write stores the bits of the row's mask, and does nothing else: no command, and no bits that clear by being 1
abbrev pub only_stores : Kind → Bool
only_stores Stored = true
only_stores _ = false

-- the register does not have all bits that were written
abbrev pub bits_dropped : Reg → ℕ → Option Warning
bits_dropped reg v =
    let kept = bit_and v (mask_of reg) in
    if only_stores (row_of reg).kind && not (kept == v) then Some (warning.BitsDropped reg kept v) else None

-- ---- tail-past-ring (manual, chapters on the descriptor queues: the tail is an index of the ring)

-- a ring of some descriptors, whose tail is none of their indices
abbrev pub past_ring : SidedRing → Option Warning
past_ring r =
    if nat_lt 0 r.setup.count && nat_le r.setup.count r.setup.tail
    then Some (warning.TailPastRing (tail_of r.side) r.setup.tail r.setup.count) else None

-- asked of a tail that is written; and where the ring is enabled, of its length and of what enables it
abbrev pub tail_past_ring : State → Reg → Option Warning
tail_past_ring s reg = option_and_then past_ring (ring_asked s reg)

-- ---- enabled-before-ring (manual, chapter on initialization: the ring is set up, and then EN is set)

-- EN is set, and the ring has no descriptor; its base may be 0, since a ring can lie there
abbrev pub without_ring : Reg → SidedRing → Option Warning
without_ring control r =
    if r.setup.enabled && r.setup.count == 0 then Some (warning.EnabledBeforeRing control (length_of r.side)) else None

abbrev pub enabled_before_ring : State → Reg → Option Warning
enabled_before_ring s control = option_and_then (without_ring control) (ring_of_control s control)

-- ---- ring-outside-memory (manual, chapters on the descriptor queues: the base is that of the ring in host memory)

-- a descriptor is the adapter's
abbrev pub is_given : Ring → Bool
is_given r = nat_lt r.head r.count && nat_lt r.tail r.count && not (r.head == r.tail)

-- the ring leaves guest memory
abbrev pub leaves_memory : State → Ring → Bool
leaves_memory s r = leaves s.base s.memory r.base (16 * r.count)

abbrev pub outside_memory : State → Reg → SidedRing → Option Warning
outside_memory s tail r =
    if is_given r.setup && leaves_memory s r.setup then Some (warning.RingOutsideMemory tail r.setup.base) else None

abbrev pub ring_outside_memory : State → Reg → Option Warning
ring_outside_memory s tail = option_and_then (outside_memory s tail) (ring_of_tail s tail)

-- ---- descriptor-unwritten (manual, chapters on the descriptor queues: what lies before the tail is ready)

abbrev pub given_unwritten : View → Reg → SidedRing → Option Warning
given_unwritten v tail r =
    option_map (λ i. warning.DescriptorUnwritten tail i (descriptor_at r.setup i)) (first_flawed r.setup v flaw.Unwritten)

abbrev pub descriptor_unwritten : View → Reg → Option Warning
descriptor_unwritten v tail = option_and_then (given_unwritten v tail) (ring_of_tail v.present tail)

-- ---- status-left (manual, chapters on packet reception and transmission: DD says that the adapter is done with a
-- descriptor; that software clears it before is this project's profile)

-- a driver that sends can go by TDH, and leave DD in a descriptor that it has written anew
abbrev pub left_flaw : Side → Flaw
left_flaw (Receive size) = flaw.StatusLeft
left_flaw Transmit = flaw.SentBefore

abbrev pub given_with_status : View → Reg → SidedRing → Option Warning
given_with_status v tail r =
    option_map (λ i. warning.StatusLeft tail i (descriptor_at r.setup i)) (first_flawed r.setup v (left_flaw r.side))

abbrev pub status_left : View → Reg → Option Warning
status_left v tail = option_and_then (given_with_status v tail) (ring_of_tail v.present tail)

-- ---- interrupts-before-rings (this project's profile)

-- the causes of receiving: RXDMT0 (bit 4), RXO (6), RXT0 (7) and SRPD (16); of sending: TXDW (0), TXQE (1) and
-- TXD_LOW (15). The others, as a change of the link, need no ring.
abbrev pub rx_causes : ℕ
rx_causes = 0x0001_00D0

abbrev pub tx_causes : ℕ
tx_causes = 0x0000_8003

-- of a ring of so many descriptors these causes are let through, and it has none
abbrev pub early : ℕ → ℕ → Reg → Option Warning
early count causes length = if count == 0 && nat_lt 0 causes then Some (warning.InterruptsBeforeRings causes length) else None

-- by the mask, of the receive ring or else of the transmit ring
abbrev pub early_by : State → ℕ → Option Warning
early_by s mask =
    option_or (early (rx_setup s.registers).count (bit_and mask rx_causes) reg.Rdlen)
    (early (tx_setup s.registers).count (bit_and mask tx_causes) reg.Tdlen)

abbrev pub interrupts_before_rings : State → Reg → Option Warning
interrupts_before_rings s reg.Ims = early_by s (gives s reg.Ims)
interrupts_before_rings s _ = None

-- ---- all of them

-- rules besides the first ask about the register
abbrev pub is_of_ring : Reg → Bool
is_of_ring reg.Rdlen = true
is_of_ring reg.Rdh = true
is_of_ring reg.Rdt = true
is_of_ring reg.Tdlen = true
is_of_ring reg.Tdh = true
is_of_ring reg.Tdt = true
is_of_ring reg.Rctl = true
is_of_ring reg.Tctl = true
is_of_ring reg.Ims = true
is_of_ring _ = false

-- what rules say where one alone is asked
abbrev pub alone : Option Warning → List (Option Warning)
alone w = w ∷ None ∷ None ∷ None ∷ None ∷ None ∷ None ∷ None ∷ None ∷ None ∷ []

-- what each rule says of a write of a value to a register, in their order
abbrev pub warnings_of : View → Reg → ℕ → List (Option Warning)
warnings_of v reg value =
    bits_dropped reg value
    ∷ tail_past_ring v.present reg
    ∷ enabled_before_ring v.present reg
    ∷ ring_outside_memory v.present reg
    ∷ descriptor_unwritten v reg
    ∷ status_left v reg
    ∷ buffers_overlap v reg
    ∷ tail_past_head v reg
    ∷ head_while_enabled v reg
    ∷ interrupts_before_rings v.present reg
    ∷ []
