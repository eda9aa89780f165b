-- What calls tell that only look at a machine.
use Rattle.std.specs.Prelude.{ℕ, ◌-◌, ◌++◌, ◌==◌, nat_lt, List, length, drop, Option, Some, None, Result, Ok, Err}
use Rattle.std.specs.Prelude.{if◌then◌else◌, slice_get, slice_set}
use Rattle.em_mem.specs.Memory.{leaves, part}
use Rattle.em_regs.specs.Table.{reg_of}
use Rattle.em_regs.specs.declared.reg.Reg.{Reg}
use Rattle.em_latch.specs.Latches.{causes, mask}
use Rattle.em_step.specs.Access.{gives}
use Rattle.em_step.specs.Loops.{loops}
use Rattle.em_step.specs.State.{State}
use Rattle.em_journal.specs.View.{View}
use Rattle.em_watch.specs.Watching.{is_asserted}
use Rattle.em_c.specs.declared.refused.Refused.{Refused}
use Rattle.em_c.specs.declared.refused.Refused.TheVariants.{NoMachine, NoRegister, Range, Length, NoFrame, Room}
use Rattle.em_c.specs.declared.tagged.Tagged.{Tagged}

-- what is asked of the machine that is held, where one is
abbrev pub asked : {X : Type 0} → Option Tagged → (View → Result X Refused) → Result X Refused
asked None question = Err NoMachine
asked (Some t) question = question t.traced.view

-- what a read would give
abbrev pub value_in : State → Option Reg → Result ℕ Refused
value_in s None = Err NoRegister
value_in s (Some reg) = Ok (gives s reg)

-- of the register at an offset
abbrev pub value_at : ℕ → View → Result ℕ Refused
value_at offset v = value_in v.present (reg_of v.present.profile offset)

-- n octets of guest memory from an address on
abbrev pub octets_at : ℕ → ℕ → View → Result (List ℕ) Refused
octets_at addr n v =
    if leaves v.present.base v.present.memory addr n then Err Range else Ok (part v.present.memory addr n)

-- where guest memory begins
abbrev pub memory_base : View → Result ℕ Refused
memory_base v = Ok v.present.base

-- how many octets a state's memory has, and all of them
abbrev pub size_of : State → ℕ
size_of s = length s.memory - s.base

abbrev pub octets_of : State → List ℕ
octets_of s = drop s.base s.memory

abbrev pub memory_size : View → Result ℕ Refused
memory_size v = Ok (size_of v.present)

-- all octets of guest memory, where they are so many
abbrev pub whole_memory : ℕ → View → Result (List ℕ) Refused
whole_memory n v = if size_of v.present == n then Ok (octets_of v.present) else Err Length

-- the interrupt line: 1 where it is asserted, else 0
abbrev pub line : View → Result ℕ Refused
line v = Ok (if is_asserted (causes v.present.latches) (mask v.present.latches) then 1 else 0)

-- whether frames that are sent come back: 1, else 0
abbrev pub looping : View → Result ℕ Refused
looping v = Ok (if loops v.present then 1 else 0)

-- how many events can be taken back
abbrev pub reach : View → Result ℕ Refused
reach v = Ok (length v.past)

-- ---- the frames that were sent

abbrev pub wire_count : View → Result ℕ Refused
wire_count v = Ok (length v.present.wire)

-- one of them, the first at 0
abbrev pub frame_or_none : Option (List ℕ) → Result (List ℕ) Refused
frame_or_none None = Err NoFrame
frame_or_none (Some frame) = Ok frame

abbrev pub wire_frame : ℕ → View → Result (List ℕ) Refused
wire_frame index v = frame_or_none (slice_get v.present.wire index)

-- how many octets
abbrev pub length_of : Result (List ℕ) Refused → Result ℕ Refused
length_of (Ok octets) = Ok (length octets)
length_of (Err refused) = Err refused

-- they lie at the head of the room, and what lies behind them stays; where the room is too small, nothing goes there
abbrev pub laid_into : List ℕ → Result (List ℕ) Refused → Result (List ℕ) Refused
laid_into room (Ok octets) =
    if nat_lt (length room) (length octets) then Err Room else Ok (octets ++ drop (length octets) room)
laid_into room (Err refused) = Err refused

-- a text lies at the head of the room, and a zero behind it; where the room is too small for both, nothing goes there
abbrev pub text_into : List ℕ → Result (List ℕ) Refused → Result (List ℕ) Refused
text_into room (Ok octets) =
    if nat_lt (length octets) (length room) then Ok (slice_set (octets ++ drop (length octets) room) (length octets) 0)
    else Err Room
text_into room (Err refused) = Err refused
