-- The octets of a frame, by what DATA and LEN are.
use Rattle.std.proofs.Common.{◌≡◌, ◌⊎◌, inl, inr, ◌<◌, ◌≤◌, ◌-◌, ◌*◌, ◌/◌, ℕ, List, ◌++◌, length, Option, Some}
use Rattle.std.proofs.Common.{None, refl, arith}
use Rattle.std.specs.Prelude.{replicate, option_and_then, IsSome}
use Rattle.std.proofs.lemmas.Bool.Decides.{nat_tests}
use Rattle.em_text.specs.Numbers.{octets_of}
use Rattle.em_text.proofs.NumbersLemmas.{octets_of-length}
use Rattle.em_line.specs.Frame.{lengthened}

-- octets that LEN lets stand
lengthened-good : (n : ℕ) (octets : List ℕ) → n ≤ 32_768 → length octets ≤ n
    → lengthened n octets ≡ Some (octets ++ replicate (n - length octets) 0)
lengthened-good n octets most le = grind (arith, nat_tests)

-- too great a LEN, or one below what is there
lengthened-bad : (n : ℕ) (octets : List ℕ) → (32_768 < n) ⊎ (n < length octets) → lengthened n octets ≡ None
lengthened-bad n octets (inl great) = grind (arith, nat_tests)
lengthened-bad n octets (inr below) = grind (arith, nat_tests)

-- DATA that has no octets of so great a number, or is none
pub not_lengthened : (word : List ℕ) (n : ℕ) → (32_768 < n) ⊎ (n < length word / 2)
    → option_and_then (lengthened n) (octets_of word) ≡ None
not_lengthened word n bad = by_octets word n bad (octets_of word) refl
  where
    apart : (n digits octets : ℕ) → digits ≡ 2 * octets → (32_768 < n) ⊎ (n < digits / 2)
        → (32_768 < n) ⊎ (n < octets)
    apart n digits octets e (inl great) = inl great
    apart n digits octets e (inr below) = inr (omega arith)

    by_octets : (word : List ℕ) (n : ℕ) → (32_768 < n) ⊎ (n < length word / 2) → (o : Option (List ℕ))
        → octets_of word ≡ o → option_and_then (lengthened n) o ≡ None
    by_octets word n bad None e = refl
    by_octets word n bad (Some octets) e =
        lengthened-bad n octets (apart n (length word) (length octets) (octets_of-length word octets e) bad)

pub is_lengthened : (word : List ℕ) (n : ℕ) → IsSome (octets_of word) → n ≤ 32_768 → length word / 2 ≤ n
    → IsSome (option_and_then (lengthened n) (octets_of word))
is_lengthened word n some most few = by_octets word n most few (octets_of word) refl some
  where
    by_octets : (word : List ℕ) (n : ℕ) → n ≤ 32_768 → length word / 2 ≤ n → (o : Option (List ℕ)) → octets_of word ≡ o
        → IsSome o → IsSome (option_and_then (lengthened n) o)
    by_octets word n most few None e some = cc some
    by_octets word n most few (Some octets) e some =
        let le : length octets ≤ n = omega (arith, octets_of-length word octets e) in
        rw (lengthened-good n octets most le) refl

-- what is made of an option is there only where the option is
pub some_before : {A B : Type 0} (f : A → Option B) (o : Option A) → IsSome (option_and_then f o) → IsSome o
some_before f None some = cc some
some_before f (Some a) some = refl
