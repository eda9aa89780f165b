-- The frames that were sent, step by step back.
use Rattle.std.proofs.Common.{◌≡◌, ◌∙◌, ℕ, ◌+◌, ◌-◌, ◌<◌, ◌≤◌, ◌⊎◌, inl, inr, Bool, true, false, List, [], ◌∷◌, ◌++◌}
use Rattle.std.proofs.Common.{Some, None, refl, sym, ap, subst, arith, length, take, get_or, suc}
use Rattle.std.specs.Prelude.{slice_get, if◌then◌else◌, min}
use Rattle.std.proofs.lemmas.List.{length-take, length-take-le, take-take, take_all}
use Rattle.em_regs.specs.declared.reg.Reg.TheVariants.{Tdh}
use Rattle.em_latch.specs.Latches.{undo as latches_undo}
use Rattle.em_tx.specs.Cells.{Cells as TxCells}
use Rattle.em_tx.specs.Undo.{front_of, undo as tx_undo, wire_before as wire_of}
use Rattle.std.proofs.lemmas.Option.{get_or_from_slice_get, slice_get_cases}
use Rattle.std.proofs.Math.Seq.{take-suc}
use Rattle.em_tx.specs.declared.change.Sent.{Sent}
use Rattle.em_tx.specs.declared.change.Sent.TheVariants.{NoFrame, Untagged, Tagged}
use Rattle.em_tx.specs.declared.undo.TxUndo.{TxUndo}
use Rattle.em_tx.specs.declared.undo.TxUndo.TheVariants as tx
use Rattle.em_step.specs.Before.{TakesOffWire}
use Rattle.em_step.specs.Cells.{Cells, shows}
use Rattle.em_step.specs.State.{State}
use Rattle.em_step.specs.Undo.{Undo, undo}
use Rattle.em_step.specs.Undo.{Changed, Nothing, Register, Octets, Arrival, RxStep, TxStep, Link, Pins, Phy, Reset}
use Rattle.em_step.specs.Undo.{tx_cells_of, undo_effect, undo_register, word}
use Rattle.em_journal.specs.Record.{IsRecordAt}
use Rattle.em_journal.specs.View.{View, states}
use Rattle.em_watch.proofs.TracedLaws.{next_item, some_is}
use Rattle.em_recording.specs.Wire.{ComesOn, HasSent, IsFrameOf, SentAt}

sent_stays : (wire : List (List ℕ)) (sent : Sent) → (wire_of wire sent ≡ wire) ⊎ (wire_of wire sent ≡ front_of wire)
sent_stays wire NoFrame = inl refl
sent_stays wire Untagged = inr refl
sent_stays wire Tagged = inr refl

transmit_stays : (c : TxCells) (r : TxUndo)
    → ((tx_undo c r).wire ≡ c.wire) ⊎ ((tx_undo c r).wire ≡ front_of c.wire)
transmit_stays c tx.Nothing = inl refl
transmit_stays c (tx.Step change) = sent_stays c.wire change.sent
transmit_stays c (tx.Cleared old) = inl refl

-- an effect leaves the frames that were sent, or takes the last one off
effect_stays : (c : Cells) (effect : Changed)
    → ((undo_effect c effect).wire ≡ c.wire) ⊎ ((undo_effect c effect).wire ≡ front_of c.wire)
effect_stays c Nothing = inl refl
effect_stays c (Register old) = inl refl
effect_stays c (Octets old) = inl refl
effect_stays c (Arrival old) = inl refl
effect_stays c (RxStep head old) = inl refl
effect_stays c (TxStep old head) =
    transmit_stays (tx_cells_of (undo_register c (word Tdh head))) (tx.Step old)
effect_stays c (Link old) = inl refl
effect_stays c (Pins old told) = inl refl
effect_stays c (Phy old) = inl refl
effect_stays c (Reset old) =
    transmit_stays
    (tx_cells_of (record c { registers = old.registers; latches = old.latches })) old.gathered

front_is_all : (before after : List (List ℕ)) → before ≡ front_of after → length after ≡ length before → before ≡ after
front_is_all before after front size =
    let short : length (front_of after) ≡ min (length after - 1) (length after) = length-take (length after - 1) after in
    front ∙ take_all (length after - 1) after (omega (arith, short, size, ap length front))

comes_by : (before after : List (List ℕ)) (off : Bool)
    → length after ≡ length before + (if off then 1 else 0)
    → (before ≡ after) ⊎ (before ≡ front_of after) → ComesOn off before after
comes_by before after true size (inl same) = absurd (omega (arith, size, ap length same))
comes_by before after true size (inr front) = (omega (arith, size), front)
comes_by before after false size (inl same) = same
comes_by before after false size (inr front) = front_is_all before after front (omega (arith, size))

pub sent_at : (v : View) (k : ℕ) (r : Undo) (off : Bool) → IsRecordAt v k r → TakesOffWire r off → SentAt v k off
sent_at v k r off at takes before after was is =
    let c : Cells = at.0 in
    let before_is : shows (undo c r) ≡ before = some_is _ _ (sym at.3 ∙ was) in
    let after_is : shows c ≡ after = some_is _ _ (sym at.2 ∙ is) in
    let comes = comes_by (shows (undo c r)).wire (shows c).wire off (takes c at.1)
    (effect_stays (record c { latches = latches_undo c.latches r.latches }) r.effect) in
    subst (λ (s : State). ComesOn off s.wire after.wire) before_is
    (subst (λ (s : State). ComesOn off (shows (undo c r)).wire s.wire) after_is comes)

-- ---- how many were sent so many steps back
pub all_sent : (v : View) (count : ℕ) → count ≡ length v.present.wire → HasSent v 0 count
all_sent v count e s there =
    let same : v.present ≡ s = some_is v.present s there in
    subst (λ (t : State). (count ≡ length t.wire) × (t.wire ≡ take count v.present.wire)) same
    (e, sym (take_all count v.present.wire (omega (arith, e))))

pub there_is : {A : Type 0} (xs : List A) (k : ℕ) → k < length xs → (x : A) × (slice_get xs k ≡ Some x)
there_is xs k l = elim (slice_get_cases xs k).1 [
  | inl here ↦ (here.0, here.2)
  | inr none ↦ absurd (omega (arith, none.0, l))
]

pub past_there : (v : View) (k : ℕ) (s : State) → slice_get (states v) (k + 1) ≡ Some s → slice_get v.past k ≡ Some s
past_there v k s e = sym (next_item v.present v.past k) ∙ e

front_length : (wire : List (List ℕ)) → length (front_of wire) ≡ length wire - 1
front_length wire = length-take-le (length wire - 1) wire (omega arith)

-- one step back from there, where the event sent none
pub sent_none : (v : View) (k count : ℕ) → k < length v.past → HasSent v k count → SentAt v k false
    → HasSent v (k + 1) count
sent_none v k count l has came s there =
    let after = there_is (states v) k (omega (arith, l)) in
    let same : s.wire ≡ after.0.wire = came s after.0 (past_there v k s there) after.1 in
    let now = has after.0 after.1 in
    (now.0 ∙ ap length (sym same), same ∙ now.1)

pub some_sent : (v : View) (k count : ℕ) → k < length v.past → HasSent v k count → SentAt v k true → 0 < count
some_sent v k count l has came =
    let after = there_is (states v) k (omega (arith, l)) in
    let before = there_is v.past k l in
    let some = (came before.0 after.0 before.1 after.1).0 in
    let now = (has after.0 after.1).0 in
    omega (arith, some, now)

front_of_front : (count : ℕ) (wire present : List (List ℕ)) → count ≡ length wire → wire ≡ take count present
    → front_of wire ≡ take (count - 1) present
front_of_front count wire present e is =
    ap (λ n. take (n - 1) wire) (sym e) ∙ ap (take (count - 1)) is
    ∙ take-take (count - 1) count present (omega arith)

-- and where it sent one
pub sent_one : (v : View) (k count : ℕ) → k < length v.past → HasSent v k count → SentAt v k true
    → HasSent v (k + 1) (count - 1)
sent_one v k count l has came s there =
    let after = there_is (states v) k (omega (arith, l)) in
    let comes = came s after.0 (past_there v k s there) after.1 in
    let now = has after.0 after.1 in (
      ap (λ n. n - 1) now.0 ∙ sym (front_length after.0.wire) ∙ ap length (sym comes.1),
      comes.1 ∙ front_of_front count after.0.wire v.present.wire now.0 now.1,
    )

-- as many are there
pub sent_within : (v : View) (k count : ℕ) → k < length v.past → HasSent v k count → count ≤ length v.present.wire
sent_within v k count l has =
    let after = there_is (states v) k (omega (arith, l)) in
    let now = has after.0 after.1 in
    let size = length-take count v.present.wire in
    omega (arith, now.0, ap length now.1, size)

-- ---- the frame of an event
behind : (v : View) (back : ℕ) (s : State) → 0 < back → slice_get (states v) back ≡ Some s
    → slice_get v.past (back - 1) ≡ Some s
behind v back s some there =
    let place : back - 1 + 1 ≡ back = omega (arith, some) in
    past_there v (back - 1) s (ap (slice_get (states v)) place ∙ there)

pub no_frame : (v : View) (back : ℕ) → 0 < back → SentAt v (back - 1) false → IsFrameOf v back None
no_frame v back some came before after was is =
    let same = came before after (behind v back before some was) is in (same, sym same)

pub the_frame : (v : View) (back count : ℕ) (frame : List ℕ) → 0 < back → 0 < count → HasSent v (back - 1) count
    → SentAt v (back - 1) true → slice_get v.present.wire (count - 1) ≡ Some frame → count ≤ length v.present.wire
    → IsFrameOf v back (Some frame)
the_frame v back count frame some any has came found within before after was is =
    let comes = came before after (behind v back before some was) is in
    let now = has after is in
    let wire : List (List ℕ) = v.present.wire in
    let last : get_or wire (count - 1) [] ≡ frame = get_or_from_slice_get wire (count - 1) frame [] found in
    let whole : suc (count - 1) ≡ count = omega (arith, any) in
    let front : before.wire ≡ take (count - 1) wire = comes.1 ∙ front_of_front count after.wire wire now.0 now.1 in (
      (λ i. front i ++ sym last i ∷ []) ∙ sym (take-suc wire (count - 1) [] (omega (arith, any, within)))
          ∙ ap (λ n. take n wire) whole ∙ sym now.1,
      sym comes.1,
    )

-- so many frames are there
pub is_there : (wire : List (List ℕ)) (k : ℕ) → k < length wire → slice_get wire k ≡ None → ⊥
is_there wire k l none = let here = there_is wire k l in absurd (cc here.1)
