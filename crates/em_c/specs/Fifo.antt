-- The frames that wait, and the octets that are gathered, as C sees them.
use Rattle.std.specs.Prelude.{◌≡◌, ℕ, ◌-◌, nat_lt, ⊤, List, length, is_some, unwrap_or, Option, Some, None, Result, Ok}
use Rattle.em_journal.specs.View.{View}
use Rattle.em_rx.specs.Fifo.{first, octets_in}
use Rattle.em_rx.specs.Frame.{len_of}
use Rattle.em_step.specs.Arrival.{kept_frame, lacks_room}
use Rattle.em_step.specs.State.{State}
use Rattle.em_c.specs.declared.fifo.EmFifo.{EmFifo}
use Rattle.em_c.specs.declared.refused.Refused.{Refused}
use Rattle.em_c.specs.declared.tagged.Tagged.{Tagged}
use Rattle.em_c.specs.Told.{flag}

-- how many frames wait, what the first of them is, and how many octets are gathered for a frame that is to be sent
abbrev pub fifo_told : State → EmFifo
fifo_told s = record {
  frames = length s.fifo.frames;
  octets = length (first s.fifo).octets;
  gathered = length s.gathered;
  tagged = flag (is_some (first s.fifo).tag);
  tag = unwrap_or (first s.fifo).tag 0;
}

abbrev pub fifo_in : View → Result EmFifo Refused
fifo_in v = Ok (fifo_told v.present)

-- how many stored octets have room
abbrev pub octets_free : State → ℕ
octets_free s = 49_152 - octets_in s.fifo

abbrev pub room_in : View → Result ℕ Refused
room_in v = Ok (octets_free v.present)

-- a frame lacks room exactly where more octets of it would be stored
abbrev pub IsRoomIn : State → ℕ → Type 0
IsRoomIn s room = (f : List ℕ) → lacks_room s f ≡ nat_lt room (len_of (kept_frame s f))

abbrev pub IsRoomOf : Option Tagged → ℕ → Type 0
IsRoomOf None room = ⊤
IsRoomOf (Some t) room = IsRoomIn t.traced.view.present room

-- the octets of the first frame that waits; none where none waits
abbrev pub first_frame : View → Result (List ℕ) Refused
first_frame v = Ok (first v.present.fifo).octets

abbrev pub gathered : View → Result (List ℕ) Refused
gathered v = Ok v.present.gathered
