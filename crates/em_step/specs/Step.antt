-- One event: the refusal whose cause comes first, or the answer and the next state.
use Rattle.std.specs.Prelude.{◌≡◌, ◌⊎◌, ℕ, ◌==◌, ◌||◌, nat_lt, Bool, true, false, not, IsTrue, if◌then◌else◌}
use Rattle.std.specs.Prelude.{List, length, Option, Some, None, Result, Ok, Err}
use Rattle.em_mem.specs.Memory.{leaves, put}
use Rattle.em_regs.specs.Table.{answers_at, reg_at, reg_of}
use Rattle.em_regs.specs.declared.reg.Reg.{Reg}
use Rattle.em_step.specs.Event.{Event, reads, writes, pokes, arrives, links, receives, transmits}
use Rattle.em_step.specs.State.{State}
use Rattle.em_step.specs.Arrival.{arrival}
use Rattle.em_step.specs.Engines.{rx_step, tx_step}
use Rattle.em_step.specs.Access.{gives, after_read, after_write, is_reset, after_link}
use Rattle.em_step.specs.declared.event.Answer.{Answer}
use Rattle.em_step.specs.declared.event.Answer.TheVariants.{Done, Value, Dropped, Idle}
use Rattle.em_step.specs.declared.refusal.Refusal.{Refusal}
use Rattle.em_step.specs.declared.refusal.Refusal.TheVariants.{NoRegister, Range, Length, Memory}

-- an access where no register lies changes nothing, and is refused where the profile does not answer at the offset
abbrev pub at_none : State → ℕ → Answer → Result (Answer × State) Refusal
at_none s o answer = if answers_at s.profile o then Ok (answer, s) else Err NoRegister

-- an access of the register at an offset, and what it is otherwise, where there is none
abbrev pub at_register : Option Reg → (Reg → Answer × State) → Result (Answer × State) Refusal
    → Result (Answer × State) Refusal
at_register None access otherwise = otherwise
at_register (Some reg) access otherwise = Ok (access reg)

-- a memory write has 1 to 16,384 octets; the range is tested before the length
abbrev pub poke : State → ℕ → List ℕ → Result (Answer × State) Refusal
poke s a octets =
    if leaves s.base s.memory a (length octets) then Err Range
    else if length octets == 0 || nat_lt 16_384 (length octets) then Err Length
    else Ok (Done, record s { memory = put s.memory a octets })

-- a frame has 14 to 20,000 octets, whatever becomes of it
abbrev pub arrive : State → List ℕ → Result (Answer × State) Refusal
arrive s f = if nat_lt (length f) 14 || nat_lt 20_000 (length f) then Err Length else Ok (arrival s f)

-- the answer and the next state, or why there is none
abbrev pub step : State → Event → Result (Answer × State) Refusal
step s (reads o) =
    at_register (reg_of s.profile o) (λ reg. (Value (gives s reg), after_read s reg)) (at_none s o (Value 0))
step s (writes o v) = at_register (reg_of s.profile o) (λ reg. (Done, after_write s reg v)) (at_none s o Done)
step s (pokes a octets) = poke s a octets
step s (arrives f) = arrive s f
step s (links up) = Ok (Done, after_link s up)
step s receives = rx_step s
step s transmits = tx_step s

-- a write that resets
abbrev pub resets : Option Reg → ℕ → Bool
resets None v = false
resets (Some reg) v = is_reset reg v

-- the events that take memory: a memory write, a reset, the arrival of a frame, and a step of an engine
abbrev pub takes_memory : Event → Bool
takes_memory (reads o) = false
takes_memory (writes o v) = resets (reg_at o) v
takes_memory (pokes a octets) = true
takes_memory (arrives f) = true
takes_memory (links up) = false
takes_memory receives = true
takes_memory transmits = true

-- a frame that is dropped takes none, nor does an idle step
abbrev pub takes_none : Answer → Bool
takes_none (Dropped reason) = true
takes_none Idle = true
takes_none answer = false

-- something comes of the event, for which memory may be wanting
abbrev pub needs_memory : Result (Answer × State) Refusal → Bool
needs_memory (Ok r) = not (takes_none r.0)
needs_memory (Err refusal) = false

-- what refuses an event: its first cause, or, where it has none and takes memory, the want of memory
abbrev pub Refuses : State → Event → Refusal → Type 0
Refuses s e refusal =
    ((refusal ≡ Memory) × IsTrue (takes_memory e) × IsTrue (needs_memory (step s e))) ⊎ (step s e ≡ Err refusal)
