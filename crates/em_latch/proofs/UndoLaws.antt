-- Reversed changes, one after another, and how many octets they take.
use Rattle.std.proofs.Common.{◌≡◌, ℕ, ◌^◌, ◌<◌, ◌≤◌, true, false, inl, inr, Some, IsTrue, List, [], ◌∷◌}
use Rattle.std.proofs.Common.{refl, sym, ap, ◌∙◌, arith, subst}
use Rattle.std.specs.Prelude.{nat_lt}
use Rattle.std.specs.FinMap as map
use Rattle.std.proofs.lemmas.Bool.{cases_lt}
use Rattle.std.proofs.lemmas.Bool.Decides.{nat_tests}
use Rattle.em_regs.specs.Storage.{Registers}
use Rattle.em_regs.specs.RegFile.{at}
use Rattle.em_regs.proofs.Entries.{at-insert_same, is_there, put_back}
use Rattle.em_latch.specs.Latches.{Growth, IsThere, Fits, Reverses, grown, shrink, shrunk, undo}
use Rattle.em_latch.specs.Undo.{octets_for}

-- ---- reversed changes
-- no change
pub nothing_reversed : (m : Registers) → Reverses m m []
nothing_reversed m = record { fits = tt; restores = refl }

-- a word grew, and nothing else changed
pub record Grows (old new : Registers) (g : Growth) : Type 0 where
  pub there : IsThere new g
  pub restores : shrink new g ≡ old

shrunk-grown : (w by : ℕ) → w < 2 ^ 32 → by < 2 ^ 32 → shrunk (grown w by) by ≡ w
shrunk-grown w by h l = omega arith

pub grows : {old new : Registers} {o : ℕ} (w by : ℕ) → map.get old o ≡ Some w → w < 2 ^ 32 → by < 2 ^ 32
    → new ≡ map.insert old o (grown w by) → Grows old new record { at = o; by = by }
grows {old} {new} {o} w by had h l is =
    let now : at new o ≡ grown w by = ap (λ m. at m o) is ∙ at-insert_same old o (grown w by) in
    record {
      there = subst (λ m. IsTrue (map.contains_key m o)) (sym is) (is_there old o (grown w by));
      restores =
          ap (λ v. map.insert new o (shrunk v by)) now ∙ ap (map.insert new o) (shrunk-grown w by h l)
          ∙ ap (λ m. map.insert m o w) is ∙ put_back old o (grown w by) w had;
    }

-- a newer change of one word
pub newer_growth : {a b c : Registers} {gs : List Growth} {g : Growth} → Reverses a b gs → Grows b c g
    → Reverses a c (g ∷ gs)
newer_growth {gs = gs} older newer = record {
  fits = (newer.there, subst (λ m. Fits m gs) (sym newer.restores) older.fits);
  restores = ap (λ m. undo m gs) newer.restores ∙ older.restores;
}

-- ---- how many octets a growth takes
pub octets_for-one : (by : ℕ) → by < 2 → octets_for by ≡ 1
octets_for-one by h = let t : nat_lt by 2 ≡ true = grind (arith, nat_tests) in rw t refl

pub octets_for-three : (by : ℕ) → 2 ≤ by → by < 0x1_0000 → octets_for by ≡ 3
octets_for-three by h l =
    let t : nat_lt by 2 ≡ false = grind (arith, nat_tests) in
    let u : nat_lt by 0x1_0000 ≡ true = grind (arith, nat_tests) in
    rw (t, u) refl

pub octets_for-five : (by : ℕ) → 0x1_0000 ≤ by → octets_for by ≡ 5
octets_for-five by h =
    let t : nat_lt by 2 ≡ false = grind (arith, nat_tests) in
    let u : nat_lt by 0x1_0000 ≡ false = grind (arith, nat_tests) in
    rw (t, u) refl

pub octets_for-bounds : (by : ℕ) → (1 ≤ octets_for by) × (octets_for by ≤ 5)
octets_for-bounds by = elim (cases_lt by 2) [
  | inl h ↦ (omega (arith, octets_for-one by h), omega (arith, octets_for-one by h))
  | inr h ↦ elim (cases_lt by 0x1_0000) [
    | inl l ↦ (omega (arith, octets_for-three by h l), omega (arith, octets_for-three by h l))
    | inr l ↦ (omega (arith, octets_for-five by l), omega (arith, octets_for-five by l))
  ]
]

-- a lesser growth takes no more
pub octets_for-le : (by most : ℕ) → by ≤ most → octets_for by ≤ octets_for most
octets_for-le by most le = elim (cases_lt most 2) [
  | inl h ↦ omega (arith, octets_for-one most h, octets_for-one by (omega arith))
  | inr h ↦ elim (cases_lt most 0x1_0000) [
    | inl l ↦ elim (cases_lt by 2) [
      | inl k ↦ omega (arith, octets_for-three most h l, octets_for-one by k)
      | inr k ↦ omega (arith, octets_for-three most h l, octets_for-three by k (omega arith))
    ]
    | inr l ↦ omega (arith, octets_for-five most l, (octets_for-bounds by).1)
  ]
]
