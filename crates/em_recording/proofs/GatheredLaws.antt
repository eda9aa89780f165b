-- The gathered octets, step by step back.
use Rattle.std.proofs.Common.{◌≡◌, ◌∙◌, ℕ, ◌+◌, ◌-◌, ◌<◌, List, [], ◌∷◌, ◌++◌, Some, sym, ap, arith, length, take}
use Rattle.std.proofs.Common.{append-nil, get_or}
use Rattle.std.specs.Prelude.{slice_get}
use Rattle.std.proofs.Math.Seq.{take-append_seam}
use Rattle.std.proofs.lemmas.List.{get_or-take, take_all}
use Rattle.std.proofs.lemmas.Option.{get_or_from_slice_get}
use Rattle.em_tx.specs.Undo.{last_of}
use Rattle.em_step.specs.Before.{PutsBackGathered}
use Rattle.em_step.specs.Cells.{Cells, shows}
use Rattle.em_step.specs.State.{State}
use Rattle.em_step.specs.Undo.{Undo, undo}
use Rattle.em_journal.specs.Record.{IsRecordAt}
use Rattle.em_journal.specs.View.{View}
use Rattle.em_watch.proofs.TracedLaws.{some_is}
use Rattle.em_recording.specs.Sending.{AreGathered}
use Rattle.em_recording.specs.Wire.{HasSent, LastIs}
use Rattle.em_recording.proofs.WireLaws.{past_there}

pub all_gathered : (v : View) (octets : List ℕ) → octets ≡ v.present.gathered → AreGathered v 0 octets
all_gathered v octets e s there = ap (λ (t : State). t.gathered) (sym (some_is v.present s there)) ∙ sym e

pub gathered_back : (v : View) (k : ℕ) (r : Undo) (last now before : List ℕ) → IsRecordAt v k r
    → PutsBackGathered r last now before → LastIs v k last → AreGathered v k now → AreGathered v (k + 1) before
gathered_back v k r last now before at puts is_last are s there =
    let c : Cells = at.0 in
    let same : shows (undo c r) ≡ s = some_is _ _ (sym at.3 ∙ past_there v k s there) in
    ap (λ (t : State). t.gathered) (sym same) ∙ puts c at.1 (is_last (shows c) at.2) (are (shows c) at.2)

-- ---- the frame that was sent last
pub last_none : (v : View) (k : ℕ) → HasSent v k 0 → LastIs v k []
last_none v k has s there = ap last_of (has s there).1

pub last_some : (v : View) (k count : ℕ) (frame : List ℕ) → 0 < count → HasSent v k count
    → slice_get v.present.wire (count - 1) ≡ Some frame → LastIs v k frame
last_some v k count frame some has found s there =
    let now = has s there in
    let wire : List (List ℕ) = v.present.wire in
    (λ i. get_or (now.1 i) (sym now.0 i - 1) [])
    ∙ get_or-take count wire (count - 1) [] (omega (arith, some))
    ∙ get_or_from_slice_get wire (count - 1) frame [] found

-- ---- from the octets before to those after
pub grown : (before after behind : List ℕ) → after ≡ before ++ behind
    → (take (length before) before ++ behind ≡ after) × (take (length before) after ++ [] ≡ before)
grown before after behind is =
    let whole : take (length before) before ≡ before = take_all (length before) before (omega arith) in (
      ap (λ (front : List ℕ). front ++ behind) whole ∙ sym is,
      append-nil (take (length before) after) ∙ ap (take (length before)) is ∙ take-append_seam before behind,
    )

-- nothing behind them: they are the same
pub not_grown : (before after behind : List ℕ) → after ≡ before ++ behind → length behind ≡ 0 → after ≡ before
not_grown before after [] is none = is ∙ append-nil before
not_grown before after (octet ∷ behind) is none = absurd (omega (arith, none))
