-- The transmit side of a machine, so many steps back.
use Rattle.std.specs.Prelude.{◌≡◌, ℕ, List, Some, slice_get}
use Rattle.em_step.specs.State.{State}
use Rattle.em_journal.specs.View.{View, states}
use Rattle.em_recording.specs.Wire.{HasSent}
use Rattle.em_recording.specs.declared.sending.Sending.{Sending}

-- the octets that were gathered there
abbrev pub AreGathered : View → ℕ → List ℕ → Type 0
AreGathered v k octets = (s : State) → slice_get (states v) k ≡ Some s → s.gathered ≡ octets

pub record IsSending (v : View) (k : ℕ) (s : Sending) : Type 0 where
  pub sent : HasSent v k s.sent
  pub gathered : AreGathered v k s.gathered.items
