-- What a record tells of a word, and what it puts back.
use Rattle.std.proofs.Common.{
  ◌≡◌,
  ◌≢◌,
  ℕ,
  ◌<◌,
  ◌==◌,
  true,
  false,
  List,
  [],
  ◌∷◌,
  inl,
  inr,
  refl,
  sym,
  ap,
  ◌∙◌,
  arith,
}
use Rattle.std.specs.Prelude.{if◌then◌else◌, slice_index}
use Rattle.std.proofs.lemmas.Bool.{cases_eq}
use Rattle.std.proofs.lemmas.Bool.Decides.{nat_tests}
use Rattle.em_regs.specs.Storage.{Registers}
use Rattle.em_regs.specs.RegFile.{at}
use Rattle.em_regs.proofs.Entries.{at-insert_same, at-insert_other}
use Rattle.em_regs.proofs.Words.{apart-at}
use Rattle.em_latch.specs.declared.undo.TheConstants.{WORDS}
use Rattle.em_latch.specs.Storage.{offsets}
use Rattle.em_latch.specs.Latches.{Growth, before_at, shrink, shrunk, undo}
use Rattle.em_latch.proofs.PlaceLaws.{distinct-offsets, length-offsets}

-- the number at an offset once a word is put back
at-shrink : (m : Registers) (g : Growth) (o : ℕ)
    → at (shrink m g) o ≡ (if g.at == o then shrunk (at m o) g.by else at m o)
at-shrink m g o = elim (cases_eq g.at o) [
  | inl is ↦
      let t : (g.at == o) ≡ true = grind (arith, nat_tests) in
      rw t (ap (at (shrink m g)) (sym is) ∙ at-insert_same m g.at (shrunk (at m g.at) g.by)
      ∙ ap (λ q. shrunk (at m q) g.by) is)
  | inr other ↦
      let t : (g.at == o) ≡ false = grind (arith, nat_tests) in
      rw t (at-insert_other m g.at (shrunk (at m g.at) g.by) o (λ is. other (sym is)))
]

-- and once all of them are
pub at-undone : (m : Registers) (gs : List Growth) (o : ℕ) → at (undo m gs) o ≡ before_at gs o (at m o)
at-undone m [] o = refl
at-undone m (g ∷ gs) o = at-undone (shrink m g) gs o ∙ ap (before_at gs o) (at-shrink m g o)

-- ---- a growth of a place that is sought, and of another one
pub of_place : (place sought by value : ℕ) → place ≡ sought
    → (if slice_index offsets place == slice_index offsets sought then shrunk value by else value) ≡ shrunk value by
of_place place sought by value is =
    let same : slice_index offsets place ≡ slice_index offsets sought = ap (slice_index offsets) is in
    let t : (slice_index offsets place == slice_index offsets sought) ≡ true = grind (arith, nat_tests) in
    rw t refl

pub of_another : (place sought by value : ℕ) → place < WORDS → sought < WORDS → place ≢ sought
    → (if slice_index offsets place == slice_index offsets sought then shrunk value by else value) ≡ value
of_another place sought by value h l other =
    let differ : slice_index offsets place ≢ slice_index offsets sought
    = apart-at offsets place sought distinct-offsets (omega (arith, length-offsets, h))
    (omega (arith, length-offsets, l)) other in
    let t : (slice_index offsets place == slice_index offsets sought) ≡ false = grind (arith, nat_tests) in
    rw t refl
