-- What a record tells of what was before.
use Rattle.std.specs.Prelude.{ℕ, Bool, true, false, List, Option, Some, None}
use Rattle.em_mem.specs.Memory as mem
use Rattle.em_mem.specs.Extent.{next_octet}
use Rattle.em_mem.specs.Window.{lay_over}
use Rattle.em_tx.specs.Undo.{gathered_of}
use Rattle.em_tx.specs.declared.change.Sent.{Sent}
use Rattle.em_tx.specs.declared.change.Sent.TheVariants.{NoFrame, Untagged, Tagged}
use Rattle.em_tx.specs.declared.undo.TxUndo.{TxUndo}
use Rattle.em_tx.specs.declared.undo.TxUndo.TheVariants.{Nothing, Step, Cleared}

-- a frame was sent
abbrev pub has_sent : Sent → Bool
has_sent NoFrame = false
has_sent Untagged = true
has_sent Tagged = true

abbrev pub has_sent_by : TxUndo → Bool
has_sent_by Nothing = false
has_sent_by (Step change) = has_sent change.sent
has_sent_by (Cleared old) = false

-- what was gathered before, by what is gathered and the frame that went last to the wire
abbrev pub gathered_by : TxUndo → List ℕ → List ℕ → List ℕ
gathered_by Nothing octets last = octets
gathered_by (Step change) octets last = gathered_of change.count change.sent octets last
gathered_by (Cleared old) octets last = old.octets

-- a window of memory from address a on under the status octet, where one was overwritten
abbrev pub laid_status : Option mem.Patch → ℕ → List ℕ → List ℕ
laid_status None a window = window
laid_status (Some status) a window = lay_over a window status

-- and under any record
abbrev pub laid : TxUndo → ℕ → List ℕ → List ℕ
laid Nothing a window = window
laid (Step change) a window = laid_status change.status a window
laid (Cleared old) a window = window

-- the address of the status octet, where one was overwritten at address a or beyond
abbrev pub next_of_status : Option mem.Patch → ℕ → Option ℕ
next_of_status None a = None
next_of_status (Some status) a = next_octet a status

-- the least address from a on where any record has an octet
abbrev pub next_of : TxUndo → ℕ → Option ℕ
next_of Nothing a = None
next_of (Step change) a = next_of_status change.status a
next_of (Cleared old) a = None
