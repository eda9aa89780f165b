-- An arriving frame: what becomes of it, where the first line that holds decides, and what it changes.
use Rattle.std.specs.Prelude.{ℕ, ◌+◌, ◌==◌, ◌&&◌, nat_lt, Bool, true, false, not, if◌then◌else◌, List, ◌++◌, length}
use Rattle.em_regs.specs.declared.reg.Reg.TheVariants.{Rctl, Rdh, Rdt}
use Rattle.em_regs.specs.Setup.{value_of}
use Rattle.em_crc.specs.Crc.{crc32, sequence}
use Rattle.em_latch.specs.Counter.{after_count}
use Rattle.em_latch.specs.declared.counter.Counter.{Counter}
use Rattle.em_latch.specs.declared.counter.Counter.TheVariants.{Ruc, Roc}
use Rattle.em_address.specs.declared.kind.Kind.{Kind}
use Rattle.em_filter.specs.declared.outcome.Verdict.{Verdict}
use Rattle.em_filter.specs.declared.outcome.Verdict.TheVariants.{Reject, Accept}
use Rattle.em_filter.specs.declared.outcome.Verdict.TheVariants.{Undersize as TooShort, Oversize as TooLong}
use Rattle.em_filter.specs.Filters.{verdict}
use Rattle.em_filter.specs.Vlan.{tagged}
use Rattle.em_rx.specs.Frame.{Frame, len_of, stored_frame}
use Rattle.em_rx.specs.Fifo.{after_arrival, octets_in}
use Rattle.em_step.specs.Access.{has}
use Rattle.em_step.specs.Counts.{after_buffer_count, after_frame_count, after_miss_count, after_total_received}
use Rattle.em_step.specs.State.{State, is_adapter}
use Rattle.em_step.specs.declared.event.Answer.{Answer}
use Rattle.em_step.specs.declared.event.Answer.TheVariants.{Stored, Dropped}
use Rattle.em_step.specs.declared.event.Reason.TheVariants.{Down, Disabled, Rejected, Undersize, Oversize, Missed}

-- ---- the registers that it goes by
abbrev pub rctl : State → ℕ
rctl s = value_of s.registers Rctl

abbrev pub rdh : State → ℕ
rdh s = value_of s.registers Rdh

abbrev pub rdt : State → ℕ
rdt s = value_of s.registers Rdt

-- RCTL.EN: frames are received
abbrev pub is_enabled : State → Bool
is_enabled s = has (rctl s) 0x2

-- RCTL.BAM: broadcasts are received
abbrev pub takes_broadcasts : State → Bool
takes_broadcasts s = has (rctl s) 0x8000

-- no descriptor is the adapter's, so no buffer is there for the frame
abbrev pub lacks_buffer : State → Bool
lacks_buffer s = rdh s == rdt s

-- ---- the frame in the FIFO
-- the second profile stores the frame check sequence too, unless RCTL.SECRC strips it
abbrev pub keeps_sequence : State → Bool
keeps_sequence s = is_adapter s.profile && not (has (rctl s) 0x0400_0000)

-- the frame as it came, with its check sequence where that is kept
abbrev pub with_sequence : Bool → List ℕ → List ℕ
with_sequence false f = f
with_sequence true f = f ++ sequence (crc32 f)

-- the frame as it is stored
abbrev pub kept_frame : State → List ℕ → Frame
kept_frame s f = stored_frame (with_sequence (keeps_sequence s) f) (tagged s.registers f)

-- so many stored octets would be too many
abbrev pub lacks_room : State → List ℕ → Bool
lacks_room s f = nat_lt 49_152 (octets_in s.fifo + len_of (kept_frame s f))

-- ---- what an arrival leaves
-- a frame is counted among all, with four octets, the frame check sequence
abbrev pub after_arrived : State → List ℕ → State
after_arrived s f = record s { latches = after_total_received s.profile (length f + 4) s.latches }

-- one more in a counter
abbrev pub after_one_more : State → Counter → State
after_one_more s counter = record s { latches = after_count s.latches counter 1 }

-- a frame is missed
abbrev pub after_miss : State → State
after_miss s = record s { latches = after_buffer_count (lacks_buffer s) (after_miss_count s.latches) }

-- a frame is stored: it comes last in the FIFO; four octets, the frame check sequence, count with it
abbrev pub after_accept : State → List ℕ → Kind → State
after_accept s f kind = record s {
  latches = after_buffer_count (lacks_buffer s) (after_frame_count (length f + 4) (takes_broadcasts s) kind s.latches);
  fifo = after_arrival s.fifo (kept_frame s f);
}

-- an accepted frame is missed where the FIFO has no room for it, and stored otherwise
abbrev pub admission : State → List ℕ → Kind → Answer × State
admission s f kind =
    if lacks_room s f then (Dropped Missed, after_miss s)
    else (Stored, after_accept s f kind)

-- by the verdict of the filters
abbrev pub judgement : State → List ℕ → Verdict → Answer × State
judgement s f Reject = (Dropped Rejected, s)
judgement s f TooShort = (Dropped Undersize, after_one_more s Ruc)
judgement s f TooLong = (Dropped Oversize, after_one_more s Roc)
judgement s f (Accept kind) = admission s f kind

-- a frame for which receives are enabled is among all, whatever the verdict
abbrev pub judged : State → List ℕ → Answer × State
judged s f = judgement (after_arrived s f) f (verdict s.profile s.registers f)

-- the answer and the next state
abbrev pub arrival : State → List ℕ → Answer × State
arrival s f =
    if not s.link then (Dropped Down, s)
    else if not (is_enabled s) then (Dropped Disabled, s)
    else judged s f

-- the octets that an arrival puts into the FIFO, by its answer
abbrev pub octets_stored : State → List ℕ → Answer → ℕ
octets_stored s f Stored = len_of (kept_frame s f)
octets_stored s f answer = 0
