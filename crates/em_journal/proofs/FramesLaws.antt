-- Frames whose octets are let go, in each state that steps back lead to.
use Rattle.std.proofs.Common.{◌≡◌, ◌∙◌, ℕ, ◌+◌, ◌≤◌, zero, suc, List, [], ◌∷◌, length, map, take, refl, sym, ap, subst, arith}
use Rattle.std.specs.Prelude.{Some, slice_get}
use Rattle.std.proofs.lemmas.List.{take_all}
use Rattle.em_step.specs.Cells.{Cells, cells_without, shows}
use Rattle.em_step.specs.State.{State, without_frames}
use Rattle.em_step.specs.Undo.{Undo, undo}
use Rattle.em_step.proofs.FramesLaws.{fits_without, undo_without, wire_shorter}
use Rattle.em_journal.specs.Records.{AllFit, back_through, view_of}
use Rattle.em_journal.specs.View.{View, oldest, sent_before, view_without}

-- the oldest state has no more frames than any behind it
pub oldest_shorter : (c : Cells) (rs : List Undo) → length (oldest (shows c) (back_through c rs)).wire ≤ length c.wire
oldest_shorter c [] = omega arith
oldest_shorter c (r ∷ rs) = omega (arith, wire_shorter c r, oldest_shorter (undo c r) rs)

pub all_fit_without : (k : ℕ) (c : Cells) (rs : List Undo) → AllFit c rs
    → k ≤ length (oldest (shows c) (back_through c rs)).wire → AllFit (cells_without k c) rs
all_fit_without k c [] fit l = tt
all_fit_without k c (r ∷ rs) fit l =
    let here : k ≤ length (undo c r).wire = omega (arith, l, oldest_shorter (undo c r) rs) in (
      fits_without k c r fit.0 here,
      subst (λ d. AllFit d rs) (sym (undo_without k c r fit.0 here)) (all_fit_without k (undo c r) rs fit.1 l),
    )

back_without : (k : ℕ) (c : Cells) (rs : List Undo) → AllFit c rs
    → k ≤ length (oldest (shows c) (back_through c rs)).wire
    → back_through (cells_without k c) rs ≡ map (without_frames k) (back_through c rs)
back_without k c [] fit l = refl
back_without k c (r ∷ rs) fit l =
    let here : k ≤ length (undo c r).wire = omega (arith, l, oldest_shorter (undo c r) rs) in
    let same = undo_without k c r fit.0 here in
    let below = ap (λ d. back_through d rs) same ∙ back_without k (undo c r) rs fit.1 l in
    λ i. shows (same i) ∷ below i

pub view_of_without : (k budget : ℕ) (c : Cells) (rs : List Undo) → AllFit c rs
    → k ≤ length (oldest (shows c) (back_through c rs)).wire
    → view_of budget (cells_without k c) rs ≡ view_without k (view_of budget c rs)
view_of_without k budget c rs fit l =
    λ i. record (view_of budget (cells_without k c) rs) { past = back_without k c rs fit l i }

-- ---- the oldest state, found from the newest on
pub oldest_is : (k : ℕ) (s : State) (past : List State) (x : State) → slice_get (s ∷ past) k ≡ Some x
    → oldest s (take k past) ≡ x
oldest_is zero s past x is = cc
oldest_is (suc k) s [] x is = absurd (cc)
oldest_is (suc k) s (t ∷ past) x is = oldest_is k t past x is

pub oldest_all : (k : ℕ) (s : State) (past : List State) → length past ≤ k → oldest s (take k past) ≡ oldest s past
oldest_all k s past l = ap (oldest s) (take_all k past l)
