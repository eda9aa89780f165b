-- By how much words grow when causes are raised and pairs are counted.
use Rattle.std.proofs.Common.{◌≡◌, ◌≢◌, ℕ, ◌+◌, ◌-◌, ◌*◌, ◌/◌, ◌%◌, ◌^◌, ◌<◌, ◌∙◌, ap, arith, Bool, true, false, cond, Option, Some, refl, sym}
use Rattle.std.specs.Prelude.{bit_and, bit_or, min}
use Rattle.std.specs.Cmp.{nat_cmp_total}
use Rattle.std.specs.FinMap as map
use Rattle.std.specs.FinMap.{get-insert, same_map, nat_cmp-IsAntisymmetric}
use Rattle.std.specs.Ordering.{nat_cmp, eq_by_cmp}
use Rattle.std.specs.Int.Bits.{or_add_and}
use Rattle.std.proofs.lemmas.Nat.{and_le_r}
use Rattle.em_regs.specs.Storage.{Registers}
use Rattle.em_regs.specs.RegFile.{at}
use Rattle.em_regs.proofs.Entries.{at-insert_other, is_tied}
use Rattle.em_latch.specs.Latches.{grown}

-- causes that are set grow by those that are new
pub grown_causes : (set causes : ℕ) → bit_or set causes < 2 ^ 32
    → grown set (causes - bit_and set causes) ≡ bit_or set causes
grown_causes set causes fits = omega (arith, or_add_and set causes, and_le_r set causes)

-- a pair as one number, by how much it steps, and what its high half gets of that
pub record Steps (low high by step carry : ℕ) : Type 0 where
  pub low_fits : low < 2 ^ 32
  pub high_fits : high < 2 ^ 32
  pub fits : by < 2 ^ 32
  pub step_is : step ≡ min by (2 ^ 64 - 1 - (low + 2 ^ 32 * high))
  pub carry_is : carry ≡ (low + step) / 2 ^ 32

-- the pair after that
abbrev pub after_step : ℕ → ℕ → ℕ → ℕ
after_step low high by = min (low + 2 ^ 32 * high + by) (2 ^ 64 - 1)

sum_is : {low high by step carry : ℕ} → Steps low high by step carry
    → after_step low high by ≡ low + 2 ^ 32 * high + step
sum_is s = omega (arith, s.step_is)

grown_low : {low high by step carry : ℕ} → Steps low high by step carry
    → grown low step ≡ after_step low high by % 2 ^ 32
grown_low s = omega (arith, sum_is s)

grown_high : {low high by step carry : ℕ} → Steps low high by step carry
    → grown high carry ≡ after_step low high by / 2 ^ 32
grown_high s = omega (arith, sum_is s, s.step_is, s.carry_is, s.high_fits, s.low_fits, s.fits)

pub pair_grown : (m between after : Registers) (lo hi : ℕ) {by step carry : ℕ} → hi ≢ lo
    → Steps (at m lo) (at m hi) by step carry
    → between ≡ map.insert m lo (grown (at m lo) step)
    → after ≡ map.insert between hi (grown (at between hi) carry)
    → after ≡ (let n = after_step (at m lo) (at m hi) by in
    map.insert (map.insert m lo (n % 2 ^ 32)) hi (n / 2 ^ 32))
pair_grown m between after lo hi {by} {step} {carry} apart s first second =
    let high : at between hi ≡ at m hi
    = ap (λ k. at k hi) first ∙ at-insert_other m lo (grown (at m lo) step) hi apart in
    second
    ∙ ap (λ v. map.insert between hi (grown v carry)) high
    ∙ ap (map.insert between hi) (grown_high s)
    ∙ ap (λ k. map.insert k hi (after_step (at m lo) (at m hi) by / 2 ^ 32)) first
    ∙ ap (λ v. map.insert (map.insert m lo v) hi (after_step (at m lo) (at m hi) by / 2 ^ 32)) (grown_low s)

chosen : (b : Bool) (w : ℕ) (x : Option ℕ) → (b ≡ true → x ≡ Some w) → cond b (Some w) x ≡ x
chosen true w x h = sym (h refl)
chosen false w x h = refl

-- a word that grows by nothing stays, and so do the registers
pub nothing_grown : (m : Registers) (o : ℕ) → map.get m o ≡ Some (at m o) → at m o < 2 ^ 32
    → m ≡ map.insert m o (grown (at m o) 0)
nothing_grown m o had small =
    let w : ℕ = at m o in
    let same : grown w 0 ≡ w = omega (arith, small) in
    let stays : map.insert m o w ≡ m
    = same_map nat_cmp_total nat_cmp-IsAntisymmetric _ _ (λ q.
    get-insert nat_cmp_total m o w q
    ∙ chosen (eq_by_cmp nat_cmp q o) w (map.get m q) (λ t. ap (λ k. map.get m k) (is_tied q o t) ∙ had)) in
    sym (ap (map.insert m o) same ∙ stays)
