-- The frames that were sent, before an event and after it.
use Rattle.std.specs.Prelude.{◌≡◌, ℕ, ◌-◌, ◌<◌, Bool, true, false, List, [], ◌∷◌, ◌++◌, length, take}
use Rattle.std.specs.Prelude.{Option, Some, None, slice_get}
use Rattle.em_tx.specs.Undo.{last_of}
use Rattle.em_step.specs.State.{State}
use Rattle.em_journal.specs.View.{View, states}

-- a frame that was sent goes last
abbrev pub wire_after : Option (List ℕ) → List (List ℕ) → List (List ℕ)
wire_after None wire = wire
wire_after (Some frame) wire = wire ++ frame ∷ []

-- and comes off again
abbrev pub wire_before : Option (List ℕ) → List (List ℕ) → List (List ℕ)
wire_before None wire = wire
wire_before (Some frame) wire = take (length wire - 1) wire

-- the last frame came on the wire, or none did
abbrev pub ComesOn : Bool → List (List ℕ) → List (List ℕ) → Type 0
ComesOn true before after = (0 < length after) × (before ≡ take (length after - 1) after)
ComesOn false before after = before ≡ after

-- so it was with the event that k steps back lead to
abbrev pub SentAt : View → ℕ → Bool → Type 0
SentAt v k came = (before after : State) → slice_get v.past k ≡ Some before → slice_get (states v) k ≡ Some after
    → ComesOn came before.wire after.wire

-- k steps back these are so many of the frames that were sent until now
abbrev pub HasSent : View → ℕ → ℕ → Type 0
HasSent v k count = (s : State) → slice_get (states v) k ≡ Some s
    → (count ≡ length s.wire) × (s.wire ≡ take count v.present.wire)

-- so many steps back this frame was sent last; it has no octets where none was sent
abbrev pub LastIs : View → ℕ → List ℕ → Type 0
LastIs v k frame = (s : State) → slice_get (states v) k ≡ Some s → last_of s.wire ≡ frame

-- the frame leads from the frames that were sent before the event to those after it, and back
abbrev pub IsFrameOf : View → ℕ → Option (List ℕ) → Type 0
IsFrameOf v back sent = (before after : State) → slice_get (states v) back ≡ Some before
    → slice_get (states v) (back - 1) ≡ Some after
    → (wire_after sent before.wire ≡ after.wire) × (wire_before sent after.wire ≡ before.wire)
