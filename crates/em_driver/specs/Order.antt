-- Packets in order: from the wire to the driver's caller, and from the caller to the wire.
use Rattle.std.specs.Prelude.{◌≡◌, ◌≢◌, ℕ, List, [], ◌++◌, map, Result, Ok, Err}
use Rattle.em_mem.specs.Memory.{part}
use Rattle.em_rx.specs.Frame.{Frame}
use Rattle.em_step.specs.State.{State}
use Rattle.em_step.specs.Whole.{padded}
use Rattle.em_driver.specs.Descriptor.{length_of}
use Rattle.em_driver.specs.Driven.{IsDriven, first, rdh, rx_at, tdh, tdt, tx_at}
use Rattle.em_driver.specs.Places.{between}
use Rattle.em_driver.specs.Receive.{Answered, rx_buffer}
use Rattle.em_driver.specs.Transmit.{tx_buffer}
use Rattle.em_driver.specs.World.{World, IsSpared, present}
use Rattle.em_driver.specs.declared.layout.Layout.{Layout}
use Rattle.em_driver.specs.declared.outcome.Batch.{Batch}
use Rattle.em_driver.specs.declared.outcome.Stopped.{Stopped}
use Rattle.em_driver.specs.declared.outcome.Cause.TheVariants.{Broken}

-- the packet in the buffer of descriptor i
abbrev pub rx_packet_at : Layout → State → ℕ → List ℕ
rx_packet_at l s i = part s.memory (rx_buffer l i) (length_of (rx_at l s i))

abbrev pub tx_packet_at : Layout → State → ℕ → List ℕ
tx_packet_at l s i = part s.memory (tx_buffer l i) (length_of (tx_at l s i))

-- the octets of frames
abbrev pub octets_of : List Frame → List (List ℕ)
octets_of frames = map (λ frame. frame.octets) frames

-- What the device has and the driver has not yet taken: the packets of the descriptors from RDT + 1 up to but not RDH,
-- and then the frames of the FIFO.
abbrev pub waiting : Layout → State → List (List ℕ)
waiting l s = between l.rx_count (first l s) (rdh s) (rx_packet_at l s) ++ octets_of s.fifo.frames

-- what the driver handed over and the device has not yet sent: the packets from TDH up to but not TDT, padded
abbrev pub queued : Layout → State → List (List ℕ)
queued l s = between l.tx_count (tdh s) (tdt s) (λ i. padded (tx_packet_at l s i))

-- A driver with this layout keeps the device, and whoever acts on its bus spares it: nobody else writes its registers
-- or its memory.
pub record IsUndisturbed (l : Layout) (w : World) : Type 0 where
  pub driven : IsDriven l (present w)
  pub spared : IsSpared l w.spared

-- While a driver with this layout ran from one world to another, it handed these packets to its caller, and took those
-- from it: nothing was lost, made up, or put before another.
pub record InOrder (l : Layout) (w v : World) (handed taken : List (List ℕ)) : Type 0 where
  pub undisturbed : IsUndisturbed l v
  -- the frames that arrivals stored meanwhile
  pub stored : List (List ℕ)
  pub is_stored : v.stored ≡ w.stored ++ stored
  -- the frames that went onto the wire meanwhile
  pub sent : List (List ℕ)
  pub is_sent : (present v).wire ≡ (present w).wire ++ sent
  pub receive : waiting l (present w) ++ stored ≡ handed ++ waiting l (present v)
  pub transmit :
      (present w).wire ++ (queued l (present w) ++ map padded taken)
      ≡ (present v).wire ++ queued l (present v)

-- a call that does not answer Broken
abbrev pub IsSound : Result Batch Stopped → Type 0
IsSound (Ok batch) = Unit {0}
IsSound (Err stop) = stop.cause ≢ Broken

-- A call of rx_batch: it appended packets to the queue, in order, and took none.
pub record Receives (l : Layout) (w v : World) (before : List (List ℕ)) (answer : Answered) : Type 0 where
  pub packets : List (List ℕ)
  pub appended : answer.0 ≡ before ++ packets
  pub order : InOrder l w v packets []
  pub sound : IsSound answer.1

-- A call of tx_batch: it took packets from the queue's front, in order, and handed over none.
pub record Transmits (l : Layout) (w v : World) (before : List (List ℕ)) (answer : Answered) : Type 0 where
  pub packets : List (List ℕ)
  pub taken : before ≡ packets ++ answer.0
  pub order : InOrder l w v [] packets
  pub sound : IsSound answer.1
