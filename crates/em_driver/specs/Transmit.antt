-- The course of tx_batch.
use Rattle.std.specs.Prelude.{◌≡◌, ℕ, zero, suc, ◌+◌, ◌-◌, ◌*◌, ◌%◌, nat_lt, nat_le, ◌&&◌, not, Bool, true, false}
use Rattle.std.specs.Prelude.{if◌then◌else◌, List, [], ◌∷◌, length, Result, Ok, Err}
use Rattle.em_regs.specs.declared.reg.Reg.TheVariants.{Tdh, Tdt}
use Rattle.em_driver.specs.Course.{Course, done, read, write, poke, Follows, Comes}
use Rattle.em_driver.specs.Descriptor.{transmit_descriptor}
use Rattle.em_driver.specs.Outcome.{cause_of}
use Rattle.em_regs.specs.Ring.{following}
use Rattle.em_driver.specs.Receive.{Answered}
use Rattle.em_driver.specs.World.{World}
use Rattle.em_driver.specs.Layout.{buffer, descriptor, tx}
use Rattle.em_driver.specs.declared.layout.Layout.{Layout}
use Rattle.em_driver.specs.declared.outcome.Batch.{Batch}
use Rattle.em_driver.specs.declared.outcome.Stopped.{Stopped}
use Rattle.em_driver.specs.declared.outcome.Cause.{Cause}
use Rattle.em_driver.specs.declared.outcome.Cause.TheVariants.{Queue, PacketLength, Broken}

abbrev pub tx_descriptor : Layout → ℕ → ℕ
tx_descriptor l = descriptor (tx l)

abbrev pub tx_buffer : Layout → ℕ → ℕ
tx_buffer l = buffer (tx l)

-- how many descriptors are free in a ring of so many: one always stays empty
abbrev pub free_from : ℕ → ℕ → ℕ → ℕ
free_from count head tail = (head + count - tail - 1) % count

-- both indices are of descriptors
abbrev pub are_indices : ℕ → ℕ → ℕ → Bool
are_indices count head tail = nat_lt tail count && nat_lt head count

-- an Ethernet packet without its check sequence
abbrev pub is_packet : List ℕ → Bool
is_packet packet = nat_le 14 (length packet) && nat_le (length packet) 1518

-- so many packets were handed to the adapter: both indices were read, and with each packet there were three events
abbrev pub handed : ℕ → Result Batch Stopped
handed count = Ok record { count = count; events = 2 + 3 * count }

-- the packet after them stopped the call, with so many events of its own
abbrev pub halt_after : ℕ → ℕ → Cause → Stopped
halt_after count own cause = record { count = count; events = 2 + 3 * count + own; cause = cause }

abbrev pub halted : ℕ → ℕ → Cause → Result Batch Stopped
halted count own cause = Err (halt_after count own cause)

-- The packets of the queue go into the free descriptors from i on, after `count` packets: the packet is written, then
-- its descriptor, and when the tail was written the packet leaves the queue.
unfoldable pub tx_from : Layout → ℕ → ℕ → ℕ → List (List ℕ) → Course Answered
tx_from l zero i count queue = done (queue, handed count)
tx_from l (suc free) i count [] = done ([], handed count)
tx_from l (suc free) i count (packet ∷ queue) =
    if not (is_packet packet) then done (packet ∷ queue, halted count 0 PacketLength)
    else poke (tx_buffer l i) packet (λ refusal. (packet ∷ queue, halted count 0 (cause_of refusal))) (
    poke (tx_descriptor l i) (transmit_descriptor (tx_buffer l i) (length packet))
    (λ refusal. (packet ∷ queue, halted count 1 (cause_of refusal))) (
    write Tdt (following l.tx_count i) (tx_from l free (following l.tx_count i) (count + 1) queue)))

-- the packets of a queue, to the queue of a number
unfoldable pub tx_batch : Layout → ℕ → List (List ℕ) → Course Answered
tx_batch l (suc number) queue = done (queue, Err record { count = 0; events = 0; cause = Queue })
tx_batch l zero [] = done ([], Ok record { count = 0; events = 0 })
tx_batch l zero (packet ∷ queue) =
    read Tdt (λ tail. read Tdh (λ head.
    if are_indices l.tx_count head tail
    then tx_from l (free_from l.tx_count head tail) tail 0 (packet ∷ queue)
    else done (packet ∷ queue, halted 0 0 Broken)))

-- a packet went into descriptor i, whatever number of descriptors is free behind it and whatever packets follow
abbrev pub Sends : Layout → ℕ → ℕ → World → World → List ℕ → Type 0
Sends l i count w v packet =
    (free : ℕ) (queue : List (List ℕ))
    → Comes w (tx_from l (suc free) i count (packet ∷ queue)) 3 v
    (tx_from l free (following l.tx_count i) (count + 1) queue)

-- it did not, and the call stops
abbrev pub Halts : Layout → ℕ → ℕ → World → World → List ℕ → Stopped → Type 0
Halts l i count w v packet stop =
    (own : ℕ) × (stop.events ≡ 2 + 3 * count + own)
    × ((free : ℕ) (queue : List (List ℕ))
    → Follows w (tx_from l (suc free) i count (packet ∷ queue)) own (packet ∷ queue, Err stop) v)

-- the first packet of a queue went into descriptor i, or there was none
abbrev pub SendsOrNot : Bool → Layout → ℕ → ℕ → World → World → List (List ℕ) → List (List ℕ) → Type 0
SendsOrNot true l i count w v before now =
    (free : ℕ)
    → Comes w (tx_from l (suc free) i count before) 3 v (tx_from l free (following l.tx_count i) (count + 1) now)
SendsOrNot false l i count w v before now =
    (free : ℕ) → Follows w (tx_from l (suc free) i count before) 0 (now, handed count) v

-- it stops the call
abbrev pub HaltsAt : Layout → ℕ → ℕ → World → World → List (List ℕ) → List (List ℕ) → Stopped → Type 0
HaltsAt l i count w v before now stop =
    (own : ℕ) × (stop.events ≡ 2 + 3 * count + own)
    × ((free : ℕ) → Follows w (tx_from l (suc free) i count before) own (now, Err stop) v)
