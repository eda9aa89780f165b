-- The words of numbers are texts.
use Rattle.std.proofs.Common.{◌≡◌, ℕ, ◌<◌, ◌==◌, zero, suc, Bool, true, false, cond, List, [], ◌∷◌, length, drop, arith, refl}
use Rattle.std.specs.Str.{IsAscii}
use Rattle.std.specs.Str.Parse.{AllDigits, IsNumeral, without_leading_plus}
use Rattle.std.proofs.Common.{eqb-true}
use Rattle.std.proofs.lemmas.Str.Parse.{digit_at}

digits_ascii : (digits : List ℕ) → AllDigits 10 digits → IsAscii digits
digits_ascii [] all i = omega arith
digits_ascii (digit ∷ digits) all zero =
    let some : 0 < length (digit ∷ digits) = omega arith in
    let within = digit_at (digit ∷ digits) 0 all some in
    omega (arith, within)
digits_ascii (digit ∷ digits) all (suc i) = digits_ascii digits all.1 i

behind_plus : (first : ℕ) (others : List ℕ) (is_plus : Bool) → (first == 43) ≡ is_plus
    → IsNumeral 10 (drop (cond is_plus 1 0) (first ∷ others)) → IsAscii (first ∷ others)
behind_plus first others true is numeral zero = let plus : first ≡ 43 = eqb-true first 43 is in omega arith
behind_plus first others true is numeral (suc i) = digits_ascii others numeral.1 i
behind_plus first others false is numeral i = digits_ascii (first ∷ others) numeral.1 i

pub number_ascii : (word : List ℕ) → IsNumeral 10 (without_leading_plus word) → IsAscii word
number_ascii [] numeral = λ i. omega arith
number_ascii (first ∷ others) numeral = behind_plus first others (first == 43) refl numeral
