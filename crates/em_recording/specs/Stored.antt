-- The newest frame of the FIFO as it came from the wire.
use Rattle.std.specs.Prelude.{ℕ, ◌%◌, ◌==◌, if◌then◌else◌, List, ◌++◌, length, take, drop, Option, Some, None}
use Rattle.byteorder.specs.Endian.{big_bytes}
use Rattle.em_regs.specs.declared.reg.Reg.TheVariants.{Vet}
use Rattle.em_rx.specs.Fifo.{last}
use Rattle.em_rx.specs.Frame.{Frame}
use Rattle.em_step.specs.Access.{gives}
use Rattle.em_step.specs.State.{State}

-- a tag lies behind the two addresses
abbrev pub with_tag : List ℕ → List ℕ → List ℕ
with_tag tag octets = take 12 octets ++ (tag ++ drop 12 octets)

-- it is VET and the tag that the FIFO keeps, of each the higher octet first
abbrev pub tag_octets : State → ℕ → List ℕ
tag_octets s tag = big_bytes 2 (gives s Vet % 0x1_0000) ++ big_bytes 2 tag

-- a tag that was taken out lies in it again
abbrev pub arrived : State → Frame → List ℕ
arrived s frame = elim frame.tag [ None ↦ frame.octets | Some tag ↦ with_tag (tag_octets s tag) frame.octets ]

abbrev pub newest_frame : State → Option (List ℕ)
newest_frame s = if length s.fifo.frames == 0 then None else Some (arrived s (last s.fifo))
