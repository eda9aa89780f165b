-- The record k steps back leads from one state of the view to the next one, and memory has one size in all of them.
use Rattle.std.proofs.Common.{◌≡◌, ◌∙◌, ℕ, ◌≤◌, zero, suc, List, [], ◌∷◌, length, Option, Some, None, refl, sym, ap, subst, arith, inl, inr}
use Rattle.std.specs.Prelude.{IfSome, IsNone, slice_get, ◌↔◌}
use Rattle.std.specs.Option.{option_map}
use Rattle.std.proofs.lemmas.Option.{slice_get_cases, slice_get_past}
use Rattle.em_step.specs.Cells.{Cells, shows}
use Rattle.em_step.specs.Undo.{Undo, Fits, undo}
use Rattle.em_step.specs.State.{State}
use Rattle.em_step.proofs.SizeLaws.{memory_base, memory_size}
use Rattle.em_journal.specs.Record.{IsRecordAt}
use Rattle.em_journal.specs.Records.{AllFit, back_through, view_of}
use Rattle.em_journal.specs.View.{HaveMemoryOf, View}

-- the records from these cells on have such a record at k
abbrev HasRecordAt : Cells → List Undo → ℕ → Undo → Type 0
HasRecordAt c rs k r =
    (d : Cells) × Fits d r × (slice_get (shows c ∷ back_through c rs) k ≡ Some (shows d))
    × (slice_get (back_through c rs) k ≡ Some (shows (undo d r)))

record_in : (c : Cells) (rs : List Undo) (k : ℕ) (r : Undo) → AllFit c rs → slice_get rs k ≡ Some r
    → HasRecordAt c rs k r
record_in c [] k r fit is = absurd (cc)
record_in c (q ∷ rs) zero r fit is =
    let same : q ≡ r = cc in
    subst (HasRecordAt c (q ∷ rs) zero) same (c, fit.0, refl, refl)
record_in c (q ∷ rs) (suc k) r fit is = record_in (undo c q) rs k r fit.1 is

pub record_found : {X : Type 0} (found : Option X) (f : X → Undo) (budget : ℕ) (c : Cells) (rs : List Undo) (v : View)
    (k : ℕ) → AllFit c rs → view_of budget c rs ≡ v → option_map f found ≡ slice_get rs k
    → IfSome found (λ x. IsRecordAt v k (f x))
record_found None f budget c rs v k fit view is = tt
record_found (Some x) f budget c rs v k fit view is =
    subst (λ w. IsRecordAt w k (f x)) view (record_in c rs k (f x) fit (sym is))

-- there is none exactly past the last
pub record_none : {X Y : Type 0} (found : Option X) (f : X → Y) (rs : List Y) (k n : ℕ)
    → option_map f found ≡ slice_get rs k → n ≡ length rs → IsNone found ↔ n ≤ k
record_none None f rs k n is size = (
  λ none. elim (slice_get_cases rs k).1 [
    | inl within ↦ absurd (let same = is ∙ within.2 in cc)
    | inr past ↦ omega (arith, size, past.0)
  ],
  λ past. refl,
)
record_none (Some x) f rs k n is size = (
  λ none. absurd (cc),
  λ past. absurd (let same = is ∙ slice_get_past rs k (omega (arith, size, past)) in cc),
)

-- ---- memory begins where it begins now, and has as many octets, in each state
abbrev IsAsNow : Cells → State → Type 0
IsAsNow c s = (s.base ≡ (shows c).base) × (length s.memory ≡ length (shows c).memory)

sizes_in : (c : Cells) (rs : List Undo) → AllFit c rs → (k : ℕ) (s : State) → slice_get (back_through c rs) k ≡ Some s
    → IsAsNow c s
sizes_in c [] fit k s is = absurd (cc)
sizes_in c (r ∷ rs) fit zero s is =
    let same : shows (undo c r) ≡ s = cc in (
      ap (λ (x : State). x.base) (sym same) ∙ memory_base c r,
      ap (λ (x : State). length x.memory) (sym same) ∙ memory_size c r fit.0,
    )
sizes_in c (r ∷ rs) fit (suc k) s is =
    let before = sizes_in (undo c r) rs fit.1 k s is in
    (before.0 ∙ memory_base c r, before.1 ∙ memory_size c r fit.0)

sizes : (c : Cells) (rs : List Undo) → AllFit c rs → (k : ℕ) (s : State)
    → slice_get (shows c ∷ back_through c rs) k ≡ Some s → IsAsNow c s
sizes c rs fit zero s is =
    let same : shows c ≡ s = cc in
    (ap (λ (x : State). x.base) (sym same), ap (λ (x : State). length x.memory) (sym same))
sizes c rs fit (suc k) s is = sizes_in c rs fit k s is

pub sizes_stay : (budget : ℕ) (c : Cells) (rs : List Undo) (v : View) (end : ℕ) → AllFit c rs
    → view_of budget c rs ≡ v → end ≡ length (shows c).memory → HaveMemoryOf v.present.base end v
sizes_stay budget c rs v end fit view is =
    subst (λ (x : View). HaveMemoryOf x.present.base end x) view
    (λ k s at. let now = sizes c rs fit k s at in record { begins = now.0; ends = now.1 ∙ sym is })
