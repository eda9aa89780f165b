-- What arrivals and engine steps leave where each frame has one descriptor, and lies whole in its buffer.
use Rattle.std.specs.Prelude.{◌≡◌, ◌≢◌, ◌⊎◌, ℕ, ◌+◌, ◌-◌, ◌/◌, ◌%◌, ◌≤◌, true, List, [], ◌∷◌, ◌++◌, length}
use Rattle.std.specs.Prelude.{if◌then◌else◌, replicate, slice_index, None}
use Rattle.em_mem.specs.Memory.{LiesIn, part, put}
use Rattle.em_regs.specs.declared.reg.Reg.TheVariants.{Rdh, Tdh, Rdt, Tdt}
use Rattle.em_regs.specs.RegFile as registers
use Rattle.em_regs.specs.Setup.{rx_setup, tx_setup, value_of}
use Rattle.em_rx.specs.Fifo.{after_arrival}
use Rattle.em_rx.specs.Frame.{Frame}
use Rattle.em_rx.specs.Receive as rx
use Rattle.em_tx.specs.Control.{first}
use Rattle.em_tx.specs.Descriptor.{address, length_of}
use Rattle.em_tx.specs.Ring as tx
use Rattle.em_step.specs.Arrival.{is_enabled}
use Rattle.em_step.specs.Engines.{rx_control, tx_control}
use Rattle.em_step.specs.State.{State}
use Rattle.em_step.specs.declared.event.Answer.{Answer}
use Rattle.em_step.specs.declared.event.Answer.TheVariants.{Stored, Dropped}
use Rattle.em_step.specs.declared.event.Reason.{Reason}

-- a frame of 60 to 1,518 octets
pub record IsUsual (octets : List ℕ) : Type 0 where
  pub least : 60 ≤ length octets
  pub most : length octets ≤ 1518

-- such a frame as the FIFO keeps it, with no tag taken out
pub record IsPlain (frame : Frame) : Type 0 where
  pub usual : IsUsual frame.octets
  pub untagged : frame.tag ≡ None

abbrev pub plain : List ℕ → Frame
plain octets = record { octets = octets; tag = None }

-- all but the FIFO and the latches is as it was
pub record KeepsAllButFifo (s t : State) : Type 0 where
  pub registers : t.registers ≡ s.registers
  pub base : t.base ≡ s.base
  pub memory : t.memory ≡ s.memory
  pub gathered : t.gathered ≡ s.gathered
  pub wire : t.wire ≡ s.wire
  pub profile : t.profile ≡ s.profile

-- a frame was dropped, or it came last into the FIFO as it is
abbrev pub Admits : State → List ℕ → Answer → State → Type 0
Admits s f answer t =
    ((reason : Reason) × (answer ≡ Dropped reason) × (t.fifo ≡ s.fifo))
    ⊎ ((answer ≡ Stored) × (is_enabled s ≡ true) × IsUsual f × (t.fifo ≡ after_arrival s.fifo (plain f)))

-- the frame f, which was first in the FIFO, went whole into the buffer of the descriptor at RDH
pub record ReceivesWhole (s : State) (f : List ℕ) (frames : List Frame) (t : State) : Type 0 where
  pub enabled : (rx_setup s.registers).enabled ≡ true
  pub apart : value_of s.registers Rdh ≢ value_of s.registers Rdt
  pub first : s.fifo.frames ≡ plain f ∷ frames
  pub usual : IsUsual f
  pub registers : t.registers ≡ registers.put s.registers Rdh (rx.following (rx_setup s.registers))
  pub base : t.base ≡ s.base
  pub memory :
      t.memory
      ≡ put (put s.memory (rx.buffer_at (rx_control s) s.memory) f)
      (rx.descriptor_at (rx_control s) + 8)
      (length f % 256 ∷ length f / 256 ∷ 0 ∷ 0 ∷ (if (rx_control s).inexact then 0x87 else 0x07) ∷ 0 ∷ 0 ∷ 0 ∷ [])
  pub fifo : t.fifo ≡ record { frames = frames; taken = 0 }
  pub gathered : t.gathered ≡ s.gathered
  pub wire : t.wire ≡ s.wire
  pub profile : t.profile ≡ s.profile

-- zero octets are added up to 60
abbrev pub padded : List ℕ → List ℕ
padded packet = packet ++ replicate (60 - length packet) 0

-- the descriptor at TDH, as it is read
abbrev pub next_descriptor : State → List ℕ
next_descriptor s = first (tx_control s) s.memory

-- its buffer's octets
abbrev pub next_packet : State → List ℕ
next_packet s = part s.memory (address (next_descriptor s)) (length_of (next_descriptor s))

-- the descriptor at TDH has EOP, IFCS and RS, and a packet in memory
pub record IsWhole (s : State) : Type 0 where
  pub command : slice_index (next_descriptor s) 11 ≡ 0x0B
  pub least : 1 ≤ length_of (next_descriptor s)
  pub held : LiesIn s.base s.memory (address (next_descriptor s)) (length_of (next_descriptor s))

-- that packet went onto the wire, padded, and DD was reported
pub record SendsWhole (s t : State) : Type 0 where
  pub enabled : (tx_setup s.registers).enabled ≡ true
  pub apart : value_of s.registers Tdh ≢ value_of s.registers Tdt
  pub registers : t.registers ≡ registers.put s.registers Tdh (tx.next (tx_setup s.registers))
  pub base : t.base ≡ s.base
  pub memory : t.memory ≡ put s.memory (tx.place (tx_setup s.registers) + 12) (1 ∷ [])
  pub fifo : t.fifo ≡ s.fifo
  pub gathered : t.gathered ≡ []
  pub wire : t.wire ≡ s.wire ++ padded (next_packet s) ∷ []
  pub profile : t.profile ≡ s.profile
