-- The octets of an Ethernet address, by what DATA is.
use Rattle.std.proofs.Common.{◌≡◌, ◌*◌, ◌↔◌, ℕ, true, false, List, length, Option, Some, None, refl, ap, ◌∙◌, arith}
use Rattle.std.specs.Prelude.{Bool, option_and_then, IsSome, IsTrue}
use Rattle.std.specs.Option.{option_map}
use Rattle.std.proofs.lemmas.Bool.Decides.{nat_tests}
use Rattle.em_text.specs.Numbers.{octets_of}
use Rattle.em_text.proofs.NumbersLemmas.{octets_of-length}
use Rattle.em_line.specs.Request.{address_of, sets_address}
use Rattle.em_line.specs.ParsedLine.{brings_octets, is_read, request_line}

six : (octets : List ℕ) → length octets ≡ 6 → address_of octets ≡ Some octets
six octets e = grind (arith, nat_tests)

not_six : (octets : List ℕ) → (length octets ≡ 6 → ⊥) → address_of octets ≡ None
not_six octets ne = grind (arith, nat_tests)

-- DATA of another number of digits than 12, or none
pub not_address : (word : List ℕ) → (length word ≡ 12 → ⊥) → option_and_then address_of (octets_of word) ≡ None
not_address word ne = by_octets word ne (octets_of word) refl
  where
    by_octets : (word : List ℕ) → (length word ≡ 12 → ⊥) → (o : Option (List ℕ)) → octets_of word ≡ o
        → option_and_then address_of o ≡ None
    by_octets word ne None e = refl
    by_octets word ne (Some octets) e =
        not_six octets (λ h. ne (octets_of-length word octets e ∙ ap (λ n. 2 * n) h))

-- octets of 12 digits
pub octets_are_six : (word octets : List ℕ) → octets_of word ≡ Some octets → length word ≡ 12 → length octets ≡ 6
octets_are_six word octets e long = omega (arith, octets_of-length word octets e, long)

-- an address brings its octets
pub some_address : (word : List ℕ) → IsSome (octets_of word) → length word ≡ 12
    → IsTrue (brings_octets (request_line (option_map sets_address (option_and_then address_of (octets_of word)))))
some_address word some long = by_octets word long (octets_of word) refl some
  where
    by_octets : (word : List ℕ) → length word ≡ 12 → (o : Option (List ℕ)) → octets_of word ≡ o → IsSome o
        → IsTrue (brings_octets (request_line (option_map sets_address (option_and_then address_of o))))
    by_octets word long None e some = cc some
    by_octets word long (Some octets) e some = rw (six octets (octets_are_six word octets e long)) refl

-- 12 digits write an address where they are digits
pub address_is_read : (word : List ℕ) (b : Bool) → length word ≡ 12 → (IsTrue b ↔ IsSome (octets_of word))
    → b ≡ is_read (request_line (option_map sets_address (option_and_then address_of (octets_of word))))
address_is_read word b long are = by_octets (octets_of word) refl b are
  where
    by_octets : (o : Option (List ℕ)) → octets_of word ≡ o → (b : Bool) → (IsTrue b ↔ IsSome o)
        → b ≡ is_read (request_line (option_map sets_address (option_and_then address_of o)))
    by_octets None e true are = cc (are.0 refl)
    by_octets None e false are = refl
    by_octets (Some octets) e true are = rw (six octets (octets_are_six word octets e long)) refl
    by_octets (Some octets) e false are = cc (are.1 refl)

-- digits of another number write none
pub no_address_is_read : (word : List ℕ) → (length word ≡ 12 → ⊥)
    → false ≡ is_read (request_line (option_map sets_address (option_and_then address_of (octets_of word))))
no_address_is_read word ne = rw (not_address word ne) refl
