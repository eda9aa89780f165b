-- Why an event was refused.
use Rattle.std.specs.Prelude.{◌≡◌, ℕ, ◌+◌, ◌==◌, ◌&&◌, ◌||◌, nat_lt, is_none, not, Bool, List, [], ◌∷◌, length}
use Rattle.std.specs.Prelude.{Option, Some, None}
use Rattle.std.specs.Prelude.{if◌then◌else◌}
use Rattle.em_mem.specs.Memory.{leaves, part}
use Rattle.em_regs.specs.declared.setup.RxSetup.{RxSetup}
use Rattle.em_regs.specs.declared.setup.TxSetup.{TxSetup}
use Rattle.em_regs.specs.Setup.{tx_setup}
use Rattle.em_regs.specs.declared.profile.Profile.{Profile}
use Rattle.em_regs.specs.declared.profile.Profile.TheVariants.{Table, Adapter}
use Rattle.em_regs.specs.Table.{answers_at, reg_of}
use Rattle.em_rx.specs.Fifo.{Fifo, first}
use Rattle.em_rx.specs.Receive as rx
use Rattle.em_rx.specs.Control.{of_setup}
use Rattle.em_rx.specs.declared.control.RxControl.{RxControl}
use Rattle.em_tx.specs.Control.{as_read, is_over, is_still}
use Rattle.em_tx.specs.Descriptor.{address, dext, length_of}
use Rattle.em_tx.specs.Ring as tx
use Rattle.em_step.specs.Engines.{rx_control, tx_control}
use Rattle.em_step.specs.Event.{Event, reads, writes, pokes, arrives, links, receives, transmits}
use Rattle.em_step.specs.State.{State}
use Rattle.em_step.specs.declared.refusal.Refusal.{Refusal}
use Rattle.em_step.specs.declared.refusal.Refusal.TheVariants as refusal
use Rattle.em_reasons.specs.declared.refused.Bounds.{Bounds}
use Rattle.em_reasons.specs.declared.refused.Refused.{Refused}
use Rattle.em_reasons.specs.declared.refused.Refused.TheVariants.{NoRegister, Range, WriteLength, FrameLength}
use Rattle.em_reasons.specs.declared.refused.Refused.TheVariants.{RxDescriptor, RxBuffer, TxDescriptor, TxBuffer}
use Rattle.em_reasons.specs.declared.refused.Refused.TheVariants.{Extended, TooLong, Overlong, Memory}
use Rattle.em_reasons.specs.RxIdle.{rx_idle}
use Rattle.em_reasons.specs.Table.{first_of}
use Rattle.em_reasons.specs.TxIdle.{tx_idle}

-- ---- where guest memory lies
abbrev pub bounds : ℕ → List ℕ → Bounds
bounds base memory = record { base = base; end = length memory }

abbrev pub bounds_of : State → Bounds
bounds_of s = bounds s.base s.memory

-- the n octets from a on leave it
abbrev pub is_past : Bounds → ℕ → ℕ → Bool
is_past b a n = nat_lt a b.base || nat_lt b.end (a + n)

-- of a reason that something leaves it
abbrev pub memory_of : Refused → Option Bounds
memory_of (Range at octets memory) = Some memory
memory_of (RxDescriptor index at memory) = Some memory
memory_of (RxBuffer index at buffer size frame memory) = Some memory
memory_of (TxDescriptor index at memory) = Some memory
memory_of (TxBuffer index at buffer octets memory) = Some memory
memory_of _ = None

-- ---- the tests
-- of an access: the profile has no register at the offset, and does not answer there
abbrev pub access_table : Profile → ℕ → List (Bool × Refused)
access_table p o = (is_none (reg_of p o) && not (answers_at p o), NoRegister o) ∷ []

-- of a memory write: the octets leave memory, and then they are none or more than 16,384
abbrev pub write_table : Bounds → ℕ → ℕ → List (Bool × Refused)
write_table memory a n =
    (is_past memory a n, Range a n memory) ∷ (n == 0 || nat_lt 16_384 n, WriteLength n) ∷ []

-- of a frame: it has fewer than 14 octets or more than 20,000
abbrev pub frame_table : ℕ → List (Bool × Refused)
frame_table n = (nat_lt n 14 || nat_lt 20_000 n, FrameLength n) ∷ []

-- the descriptor at RDH, which lies there, and where its buffer lies
abbrev pub rx_buffer : RxSetup → ℕ → List ℕ → Fifo → Refused
rx_buffer q base memory fifo =
    RxBuffer q.head (rx.descriptor_at (of_setup q)) (rx.buffer_at (of_setup q) memory) q.buffer
    (length (first fifo).octets) (bounds base memory)

-- of a receive step that is not idle: the descriptor leaves memory, and then what is to go into its buffer
abbrev pub rx_table : RxControl → ℕ → List ℕ → Fifo → List (Bool × Refused)
rx_table q base memory fifo =
    (leaves base memory (rx.descriptor_at q) 16, RxDescriptor q.setup.head (rx.descriptor_at q) (bounds base memory))
    ∷ (rx.is_outside q base memory fifo, rx_buffer q.setup base memory fifo)
    ∷ []

-- the octets of the descriptor at TDH, as the profile reads it
abbrev pub tx_octets : Profile → TxSetup → List ℕ → List ℕ
tx_octets p q memory = as_read p (part memory (tx.place q) 16)

-- that descriptor d, which lies there, and where its buffer lies
abbrev pub tx_buffer : TxSetup → Bounds → List ℕ → Refused
tx_buffer q memory d = TxBuffer q.head (tx.place q) (address d) (length_of d) memory

-- it has so many octets, too many; the second profile goes by its address, too
abbrev pub too_long : Profile → ℕ → ℕ → ℕ → Refused
too_long Table index place n = TooLong index place n
too_long Adapter index place n = Overlong index place n

-- of a transmit step that is not idle: the descriptor leaves memory; it has DEXT; its octets are, with those that are
-- gathered, more than 16,380, or more than the profile lets it have; and it has some, and they leave memory
abbrev pub tx_table : Profile → TxSetup → Bounds → List ℕ → List ℕ → List (Bool × Refused)
tx_table p q memory gathered d =
    (is_past memory (tx.place q) 16, TxDescriptor q.head (tx.place q) memory)
    ∷ (dext d, Extended q.head (tx.place q))
    ∷ (
      nat_lt 16380 (length gathered + length_of d) || is_over p (length_of d),
      too_long p q.head (tx.place q) (length_of d),
    )
    ∷ (nat_lt 0 (length_of d) && is_past memory (address d) (length_of d), tx_buffer q memory d)
    ∷ []

-- an idle step is not refused
abbrev pub unless_idle : Bool → List (Bool × Refused) → List (Bool × Refused)
unless_idle idle table = if idle then [] else table

-- the tests that refuse an event
abbrev pub refusal_table : State → Event → List (Bool × Refused)
refusal_table s (reads o) = access_table s.profile o
refusal_table s (writes o v) = access_table s.profile o
refusal_table s (pokes a octets) = write_table (bounds_of s) a (length octets)
refusal_table s (arrives f) = frame_table (length f)
refusal_table s (links up) = []
refusal_table s receives =
    let q = rx_control s in unless_idle (rx.is_idle q s.fifo) (rx_table q s.base s.memory s.fifo)
refusal_table s transmits =
    let q = tx_setup s.registers in
    unless_idle (is_still (tx_control s))
    (tx_table s.profile q (bounds_of s) s.gathered (tx_octets s.profile q s.memory))

-- why an event is refused, if it is, and not for want of memory
abbrev pub why : State → Event → Option Refused
why s e = first_of (refusal_table s e)

-- it is no step of an engine that is idle
abbrev pub IsBusy : State → Event → Type 0
IsBusy s receives = rx_idle s ≡ None
IsBusy s transmits = tx_idle s ≡ None
IsBusy s e = Unit {0}

-- which of the adapter's refusals it is
abbrev pub refusal_of : Refused → Refusal
refusal_of (NoRegister o) = refusal.NoRegister
refusal_of (Range a n size) = refusal.Range
refusal_of (WriteLength n) = refusal.Length
refusal_of (FrameLength n) = refusal.Length
refusal_of (RxDescriptor i at size) = refusal.DmaRange
refusal_of (TxDescriptor i at size) = refusal.DmaRange
refusal_of (RxBuffer i at buffer room n size) = refusal.DmaRange
refusal_of (TxBuffer i at buffer n size) = refusal.DmaRange
refusal_of (Extended i at) = refusal.Extended
refusal_of (TooLong i at n) = refusal.TooLong
refusal_of (Overlong i at n) = refusal.TooLong
refusal_of Memory = refusal.Memory

-- ---- by the refusal that was answered
abbrev pub refused_write : Bounds → ℕ → ℕ → Refused
refused_write memory a n = if is_past memory a n then Range a n memory else WriteLength n

abbrev pub refused_receive : RxSetup → ℕ → List ℕ → Fifo → Refused
refused_receive q base memory fifo =
    let at : ℕ = rx.descriptor_at (of_setup q) in
    if leaves base memory at 16 then RxDescriptor q.head at (bounds base memory) else rx_buffer q base memory fifo

abbrev pub refused_descriptor : Refusal → Profile → TxSetup → Bounds → List ℕ → Refused
refused_descriptor refusal.Extended p q memory d = Extended q.head (tx.place q)
refused_descriptor refusal.TooLong p q memory d = too_long p q.head (tx.place q) (length_of d)
refused_descriptor _ p q memory d = tx_buffer q memory d

abbrev pub refused_transmit : Refusal → Profile → TxSetup → ℕ → List ℕ → Refused
refused_transmit r p q base memory =
    if leaves base memory (tx.place q) 16 then TxDescriptor q.head (tx.place q) (bounds base memory)
    else refused_descriptor r p q (bounds base memory) (tx_octets p q memory)
