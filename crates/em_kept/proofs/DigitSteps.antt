-- Digits one by one, the last first.
use Rattle.std.proofs.Common.{Bool, true, false, List, ◌∷◌, ◌++◌, ◌%◌, refl, ◌≡◌, ℕ, zero, suc, ◌+◌, ◌*◌, ◌/◌, ◌^◌, ◌<◌, ◌≤◌, arith, pow-suc}
use Rattle.std.specs.Prelude.{◌==◌, if◌then◌else◌}
use Rattle.std.specs.Fmt.{digit_glyph, digits_onto}

-- what has a digit before its last takes one place less without that
pub record IsLonger (at n : ℕ) : Type 0 where
  pub some : 0 < at
  pub fits : n / 16 < 16 ^ at

pub longer : (at n : ℕ) → 16 ≤ n → n < 16 ^ (at + 1) → IsLonger at n
longer zero n more h = absurd (omega (arith, more, h))
longer (suc k) n more h =
    let at : suc k + 1 ≡ suc (suc k) = omega arith in
    let power : 16 ^ suc (suc k) ≡ 16 ^ suc k * 16 = pow-suc 16 (suc k) in
    let within : n < 16 ^ suc (suc k) = rw at at h in
    record { some = omega arith; fits = omega (arith, within, power) }

-- digits before a text, before another
pub onto_behind : (k n : ℕ) (acc rest : List ℕ) → digits_onto k 16 true n (acc ++ rest) ≡ digits_onto k 16 true n acc ++ rest
onto_behind zero n acc rest = refl
onto_behind (suc k) n acc rest = by (n / 16 == 0) (onto_behind k (n / 16) (digit_glyph true (n % 16) ∷ acc) rest)
  where
    by : (b : Bool)
        → digits_onto k 16 true (n / 16) (digit_glyph true (n % 16) ∷ (acc ++ rest))
        ≡ digits_onto k 16 true (n / 16) (digit_glyph true (n % 16) ∷ acc) ++ rest
        → (if b then digit_glyph true (n % 16) ∷ (acc ++ rest)
        else digits_onto k 16 true (n / 16) (digit_glyph true (n % 16) ∷ (acc ++ rest)))
        ≡ (if b then digit_glyph true (n % 16) ∷ acc
        else digits_onto k 16 true (n / 16) (digit_glyph true (n % 16) ∷ acc)) ++ rest
    by true h = refl
    by false h = h
