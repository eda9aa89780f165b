-- The course of rx_batch.
use Rattle.std.specs.Prelude.{ℕ, zero, suc, ◌+◌, ◌*◌, min, nat_lt, not, Bool, true, false, if◌then◌else◌, List, []}
use Rattle.std.specs.Prelude.{◌∷◌, ◌++◌, Result, Ok, Err}
use Rattle.em_regs.specs.declared.reg.Reg.TheVariants.{Rdt}
use Rattle.em_regs.specs.Ring.{following}
use Rattle.em_driver.specs.Course.{Course, done, read, write, peek, poke, room, Follows, Comes}
use Rattle.em_driver.specs.Descriptor.{length_of, is_done, is_whole}
use Rattle.em_driver.specs.Outcome.{cause_of}
use Rattle.em_driver.specs.World.{World}
use Rattle.em_driver.specs.Layout.{buffer, descriptor, rx}
use Rattle.em_driver.specs.declared.layout.Layout.{Layout}
use Rattle.em_driver.specs.declared.outcome.Batch.{Batch}
use Rattle.em_driver.specs.declared.outcome.Stopped.{Stopped}
use Rattle.em_driver.specs.declared.outcome.Cause.{Cause}
use Rattle.em_driver.specs.declared.outcome.Cause.TheVariants.{Memory, Queue, Broken}

-- the queue at the end of a call, and what the call answers
abbrev pub Answered : Type 0
Answered = List (List ℕ) × Result Batch Stopped

abbrev pub rx_descriptor : Layout → ℕ → ℕ
rx_descriptor l = descriptor (rx l)

abbrev pub rx_buffer : Layout → ℕ → ℕ
rx_buffer l = buffer (rx l)

-- so many packets were received: the tail was read, and with each packet there were two events
abbrev pub received : ℕ → Result Batch Stopped
received count = Ok record { count = count; events = 1 + 2 * count }

-- the call stops after them
abbrev pub stop_after : ℕ → Cause → Stopped
stop_after count cause = record { count = count; events = 1 + 2 * count; cause = cause }

abbrev pub stopped : ℕ → Cause → Result Batch Stopped
stopped count cause = Err (stop_after count cause)

-- The packet of descriptor i goes to the queue's back: there is room for it, it is looked at, the status octet is
-- cleared, and then the tail comes to i.
abbrev pub rx_packet : Layout → ℕ → ℕ → List (List ℕ) → ℕ → (List (List ℕ) → Course Answered) → Course Answered
rx_packet l i count queue len more =
    room (queue, stopped count Memory) (
    peek (rx_buffer l i) len (queue, stopped count Broken) (λ packet.
    poke (rx_descriptor l i + 12) (0 ∷ []) (λ refusal. (queue, stopped count (cause_of refusal))) (
    write Rdt i (more (queue ++ packet ∷ [])))))

-- at most so many packets from descriptor i on, after `count` packets that are in the queue
unfoldable pub rx_from : Layout → ℕ → ℕ → ℕ → List (List ℕ) → Course Answered
rx_from l zero i count queue = done (queue, received count)
rx_from l (suc left) i count queue =
    peek (rx_descriptor l i) 16 (queue, stopped count Broken) (λ d.
    if not (is_done d) then done (queue, received count)
    else if not (is_whole d) then done (queue, stopped count Broken)
    else rx_packet l i count queue (length_of d) (rx_from l left (following l.rx_count i) (count + 1)))

-- at most n packets from a queue's number, onto the back of a queue
unfoldable pub rx_batch : Layout → ℕ → ℕ → List (List ℕ) → Course Answered
rx_batch l (suc number) n queue = done (queue, Err record { count = 0; events = 0; cause = Queue })
rx_batch l zero zero queue = done (queue, Ok record { count = 0; events = 0 })
rx_batch l zero (suc n) queue =
    read Rdt (λ tail.
    if nat_lt tail l.rx_count then rx_from l (min (suc n) 65536) (following l.rx_count tail) 0 queue
    else done (queue, stopped 0 Broken))

-- the packet of descriptor i, of so many octets, was taken
abbrev pub Takes : Layout → ℕ → ℕ → World → World → List (List ℕ) → List (List ℕ) → Type 0
Takes l i len w v before now =
    (count : ℕ) (more : List (List ℕ) → Course Answered)
    → Comes w (rx_packet l i count before len more) 2 v (more now)

-- it was not, and the call stops
abbrev pub Leaves : Cause → Layout → ℕ → ℕ → World → World → List (List ℕ) → List (List ℕ) → Type 0
Leaves cause l i len w v before now =
    (count : ℕ) (more : List (List ℕ) → Course Answered)
    → Follows w (rx_packet l i count before len more) 0 (now, stopped count cause) v

-- the packet of descriptor i was taken, or none was there, whatever number of packets may follow and was taken before
abbrev pub TakesOrNot : Bool → Layout → ℕ → World → World → List (List ℕ) → List (List ℕ) → Type 0
TakesOrNot true l i w v before now =
    (left count : ℕ)
    → Comes w (rx_from l (suc left) i count before) 2 v (rx_from l left (following l.rx_count i) (count + 1) now)
TakesOrNot false l i w v before now =
    (left count : ℕ) → Follows w (rx_from l (suc left) i count before) 0 (now, received count) v

-- the call stops at descriptor i
abbrev pub StopsAt : Cause → Layout → ℕ → World → World → List (List ℕ) → List (List ℕ) → Type 0
StopsAt cause l i w v before now =
    (left count : ℕ) → Follows w (rx_from l (suc left) i count before) 0 (now, stopped count cause) v
