-- The receive engine's step, over what the registers set up, the octets of guest memory and what the FIFO shows.
use Rattle.std.specs.Prelude.{◌≡◌, ℕ, ◌+◌, ◌-◌, ◌%◌, ◌==◌, ◌||◌, min, nat_le, if◌then◌else◌, Bool, false}
use Rattle.std.specs.Prelude.{List, drop, length, Result, Ok, Err}
use Rattle.em_mem.specs.Memory.{LiesIn, leaves, part, put}
use Rattle.em_regs.specs.declared.setup.RxSetup.{RxSetup}
use Rattle.em_regs.specs.Ring as ring
use Rattle.em_regs.specs.Ring.{rx_ring}
use Rattle.em_rx.specs.Control.{is_null_at}
use Rattle.em_rx.specs.Descriptor.{descriptor_of, marked_done, written_back}
use Rattle.em_rx.specs.Fifo.{Fifo, after_delivery, first, next, rest}
use Rattle.em_rx.specs.declared.control.RxControl.{RxControl}
use Rattle.em_rx.specs.declared.step.RxAnswer.{RxAnswer}
use Rattle.em_rx.specs.declared.step.RxAnswer.TheVariants.{Idle, Wrote}
use Rattle.em_rx.specs.declared.undo.OldPiece.{OldPiece}
use Rattle.em_rx.specs.declared.refusal.RxRefusal.{RxRefusal}
use Rattle.em_rx.specs.declared.refusal.RxRefusal.TheVariants.{DmaRange, Memory}

-- nothing is done: no descriptor is the adapter's, or no frame waits
abbrev pub is_idle : RxControl → Fifo → Bool
is_idle q fifo = ring.is_idle (rx_ring q.setup) || length fifo.frames == 0

-- where the descriptor lies
abbrev pub descriptor_at : RxControl → ℕ
descriptor_at q = ring.descriptor_at (rx_ring q.setup) q.setup.head

-- its octets
abbrev pub descriptor : RxControl → List ℕ → List ℕ
descriptor q memory = part memory (descriptor_at q) 16

-- where the buffer of a descriptor of these octets lies
abbrev pub address : List ℕ → ℕ
address d = (descriptor_of d).address

-- where the buffer of the descriptor lies
abbrev pub buffer_at : RxControl → List ℕ → ℕ
buffer_at q memory = address (descriptor q memory)

-- no octet goes into its buffer
abbrev pub is_null : RxControl → List ℕ → Bool
is_null q d = is_null_at q.profile (address d)

-- where the octets go: into its buffer, and where none go, to the descriptor
abbrev pub place_of : RxControl → List ℕ → ℕ
place_of q d = if is_null q d then descriptor_at q else address d

-- how many go there
abbrev pub count_of : RxControl → List ℕ → Fifo → ℕ
count_of q d fifo = if is_null q d then 0 else min q.setup.buffer (rest fifo)

-- the frame's last octet is among them
abbrev pub is_last : RxControl → List ℕ → Fifo → Bool
is_last q d fifo = if is_null q d then false else nat_le (rest fifo) q.setup.buffer

-- what the descriptor's octets 8 to 15 are from then on
abbrev pub back_of : RxControl → List ℕ → Fifo → List ℕ
back_of q d fifo =
    if is_null q d then marked_done (drop 8 d)
    else written_back (count_of q d fifo) (is_last q d fifo) q.inexact (first fifo).tag

-- memory with the octets where they go, and then the descriptor written back
abbrev pub after_write : RxControl → List ℕ → Fifo → List ℕ
after_write q memory fifo =
    let d : List ℕ = descriptor q memory in
    put (put memory (place_of q d) (next fifo (count_of q d fifo))) (descriptor_at q + 8) (back_of q d fifo)

-- the descriptor behind it
abbrev pub following : RxSetup → ℕ
following q = ring.next (rx_ring q)

-- RXT0 with the last octet of a frame, and RXDMT0 where the adapter's descriptors are now as many as the threshold
abbrev pub causes_of : RxSetup → Bool → ℕ
causes_of q last =
    (if last then 0x80 else 0)
    + (if (q.tail + q.count - following q) % q.count == q.threshold then 0x10 else 0)

-- what a step answers that writes
abbrev pub wrote : RxSetup → Bool → RxAnswer
wrote q last = Wrote q.head (following q) (causes_of q last)

-- what a step leaves: its answer, the octets of guest memory, and what the FIFO shows
pub record Outcome : Type 0 where
  pub answer : RxAnswer
  pub memory : List ℕ
  pub fifo : Fifo

-- a step that writes
abbrev pub delivery : RxControl → List ℕ → Fifo → Outcome
delivery q memory fifo = record {
  answer = wrote q.setup (is_last q (descriptor q memory) fifo);
  memory = after_write q memory fifo;
  fifo = after_delivery fifo (count_of q (descriptor q memory) fifo);
}

-- the place where the octets go leaves memory
abbrev pub is_outside : RxControl → ℕ → List ℕ → Fifo → Bool
is_outside q base memory fifo =
    leaves base memory (place_of q (descriptor q memory)) (count_of q (descriptor q memory) fifo)

-- the step, where memory begins at a base: idle, or refused where the descriptor or then its buffer leaves memory, or a
-- delivery
abbrev pub receive : RxControl → ℕ → List ℕ → Fifo → Result Outcome RxRefusal
receive q base memory fifo =
    if is_idle q fifo then Ok (record { answer = Idle; memory = memory; fifo = fifo })
    else if leaves base memory (descriptor_at q) 16 then Err DmaRange
    else if is_outside q base memory fifo then Err DmaRange
    else Ok (delivery q memory fifo)

-- the step may be refused so: for want of memory only where it would write
abbrev pub Refuses : RxControl → ℕ → List ℕ → Fifo → RxRefusal → Type 0
Refuses q base memory fifo DmaRange = receive q base memory fifo ≡ Err DmaRange
Refuses q base memory fifo Memory = receive q base memory fifo ≡ Ok (delivery q memory fifo)

-- how many octets of memory the step writes: those of the piece, and 8 of the descriptor
abbrev pub octets_written : RxControl → List ℕ → Fifo → ℕ
octets_written q memory fifo = if is_idle q fifo then 0 else count_of q (descriptor q memory) fifo + 8

-- the step writes this piece: there its buffer and the end of its descriptor lie, and the frame leaves with it or stays
pub record IsNextPiece (q : RxControl) (base : ℕ) (memory : List ℕ) (fifo : Fifo) (p : OldPiece) : Type 0 where
  pub writes : is_idle q fifo ≡ false
  pub inside : leaves base memory (descriptor_at q) 16 ≡ false
  pub fits : is_outside q base memory fifo ≡ false
  pub delivers : receive q base memory fifo ≡ Ok (delivery q memory fifo)
  pub buffer : p.buffer ≡ place_of q (descriptor q memory)
  pub end_at : p.end_at ≡ descriptor_at q + 8
  pub len : p.len ≡ count_of q (descriptor q memory) fifo
  pub left : p.left ≡ is_last q (descriptor q memory) fifo
  pub held : LiesIn base memory p.buffer p.len
  pub end_held : LiesIn base memory p.end_at 8
