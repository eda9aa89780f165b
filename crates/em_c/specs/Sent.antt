-- The frames that were sent as a capture, record by record.
use Rattle.std.specs.Prelude.{◌≡◌, ℕ, List, [], Option, Result, Ok, Err}
use Rattle.em_frames.specs.Sent.{frame_text}
use Rattle.em_journal.specs.View.{View}
use Rattle.em_c.specs.declared.refused.Refused.{Refused}
use Rattle.em_c.specs.declared.tagged.Tagged.{Tagged}
use Rattle.em_c.specs.declared.text.Text.{Text}
use Rattle.em_c.specs.Looks.{asked, wire_frame}
use Rattle.em_c.specs.Refused.{number}
use Rattle.em_c.specs.Text.{Says, said}

-- the record of a frame with a time, as em_frames has it in a capture of all frames; or nothing, which its room allows
-- only to longer ones
abbrev pub SaysRecord : ℕ → Result (List ℕ) Refused → Text → Type 0
SaysRecord time (Ok frame) text = Says text (frame_text time frame)
SaysRecord time (Err refused) text = said text ≡ []

-- with the number that is given
abbrev pub Records : ℕ → Result (List ℕ) Refused → Text → ℕ → Type 0
Records time frame text code = (code ≡ number frame) × SaysRecord time frame text

-- of a frame that a machine sent
abbrev pub TellsSent : View → ℕ → ℕ → Text → ℕ → Type 0
TellsSent v index time text code = Records time (wire_frame index v) text code

-- and that the machine sent that is held, where one is
abbrev pub TellsRecord : Option Tagged → ℕ → ℕ → Text → ℕ → Type 0
TellsRecord held index time text code = Records time (asked held (wire_frame index)) text code
