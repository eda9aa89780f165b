-- Bits of a number, where those of a mask are the same.
use Rattle.std.proofs.Common.{◌≡◌, ◌∙◌, ◌+◌, ◌-◌, ◌*◌, ◌/◌, ◌%◌, ◌^◌, ◌<◌, ℕ, Bool, true, false, sym, ap}
use Rattle.std.specs.Prelude.{◌==◌, bit_and, if◌then◌else◌}
use Rattle.std.proofs.Math.Nat.{mul-div_cancel}
use Rattle.std.proofs.lemmas.Nat.{and_assoc, pow_pos}
use Rattle.std.proofs.lemmas.Nat.Bits.{and_high, and_pow}
use Rattle.em_regs.specs.Setup.{bit, has}

-- what was looked at is all that a register keeps, or the bits of a mask
pub bits_by : (b : Bool) (mask x y : ℕ) → (if b then x else bit_and x mask) ≡ (if b then y else bit_and y mask)
    → bit_and x mask ≡ bit_and y mask
bits_by true mask x y same = ap (λ (v : ℕ). bit_and v mask) same
bits_by false mask x y same = same

-- a mask within another
pub bits_within : (small mask x y : ℕ) → bit_and mask small ≡ small → bit_and x mask ≡ bit_and y mask
    → bit_and x small ≡ bit_and y small
bits_within small mask x y within same =
    ap (bit_and x) (sym within)
    ∙ sym (and_assoc small x mask)
    ∙ ap (λ (v : ℕ). bit_and v small) same
    ∙ and_assoc small y mask
    ∙ ap (bit_and y) within

pub has_same : (mask x y : ℕ) → bit_and x mask ≡ bit_and y mask → has x mask ≡ has y mask
has_same mask x y same = ap (λ (v : ℕ). v == mask) same

cancel : (k a b : ℕ) → a * 2 ^ k ≡ b * 2 ^ k → a ≡ b
cancel k a b same =
    let positive : 0 < 2 ^ k = pow_pos k in
    sym (mul-div_cancel a positive) ∙ ap (λ (v : ℕ). v / 2 ^ k) same ∙ mul-div_cancel b positive

-- the field of j bits from bit k on
pub field_same : (j k x y : ℕ) → bit_and x (2 ^ (j + k) - 2 ^ k) ≡ bit_and y (2 ^ (j + k) - 2 ^ k)
    → x / 2 ^ k % 2 ^ j ≡ y / 2 ^ k % 2 ^ j
field_same j k x y same = cancel k _ _ (sym (and_high x j k) ∙ same ∙ and_high y j k)

pub bit_same : (k x y : ℕ) → bit_and x (2 ^ k) ≡ bit_and y (2 ^ k) → bit x k ≡ bit y k
bit_same k x y same =
    ap (λ (v : ℕ). v == 1) (cancel k _ _ (sym (and_pow x k) ∙ same ∙ and_pow y k))
