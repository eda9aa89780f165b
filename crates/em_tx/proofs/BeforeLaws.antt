-- A record of a frame that was sent takes one frame off the wire, and a window under a status octet is as before.
use Rattle.std.proofs.Common.{◌≡◌, ◌+◌, ◌-◌, ◌<◌, ℕ, List, Option, Some, None, length, refl, sym, arith, subst}
use Rattle.std.specs.Prelude.{if◌then◌else◌}
use Rattle.std.proofs.lemmas.List.{length-take-le}
use Rattle.em_tx.specs.declared.change.Sent.{Sent}
use Rattle.em_tx.specs.declared.change.Sent.TheVariants.{NoFrame, Untagged, Tagged}
use Rattle.em_tx.specs.declared.undo.TxUndo.{TxUndo}
use Rattle.em_tx.specs.declared.undo.TxUndo.TheVariants.{Nothing, Step, Cleared}
use Rattle.em_mem.specs.Memory as mem
use Rattle.em_mem.specs.Extent.{SameUpTo, next_octet}
use Rattle.em_mem.specs.Window.{IsWindow}
use Rattle.em_mem.proofs.ExtentLaws.{all_same, same_up_to}
use Rattle.em_mem.proofs.WindowLaws.{window-undone}
use Rattle.em_tx.specs.Before.{has_sent, has_sent_by, laid_status, next_of_status}
use Rattle.em_tx.specs.Cells.{Cells}
use Rattle.em_tx.specs.Undo.{Fits, SentFits, StatusFits, front_of, status_undo, undo, wire_before}

front_is_one_less : (w : List (List ℕ)) → 0 < length w → length w ≡ length (front_of w) + 1
front_is_one_less w some = let front = length-take-le (length w - 1) w (omega arith) in omega (arith, front, some)

pub wire_taken : (c : Cells) (n : ℕ) (sent : Sent) → SentFits c n sent
    → length c.wire ≡ length (wire_before c.wire sent) + (if has_sent sent then 1 else 0)
wire_taken c n NoFrame fits = omega arith
wire_taken c n Untagged fits = front_is_one_less c.wire fits.0.0
wire_taken c n Tagged fits = front_is_one_less c.wire fits.0.0

pub wire_undone : (c : Cells) (r : TxUndo) → Fits c r
    → length c.wire ≡ length (undo c r).wire + (if has_sent_by r then 1 else 0)
wire_undone c Nothing fits = omega arith
wire_undone c (Step change) fits = wire_taken c change.count change.sent fits.0
wire_undone c (Cleared old) fits = omega arith

pub status_window : (status : Option mem.Patch) (m : mem.Cells) (a : ℕ) (w new : List ℕ) → new ≡ laid_status status a w
    → StatusFits m status → IsWindow m.octets a w → IsWindow (status_undo m status).octets a new
status_window None m a w new is fits window = subst (IsWindow m.octets a) (sym is) window
status_window (Some status) m a w new is fits window = window-undone a w new status is m fits window

pub status_same : (status : Option mem.Patch) (m : mem.Cells) (a : ℕ) → StatusFits m status
    → SameUpTo m.octets (status_undo m status).octets a (next_of_status status a)
status_same None m a fits = all_same m.octets a
status_same (Some status) m a fits = same_up_to a status (next_octet a status) refl m fits
