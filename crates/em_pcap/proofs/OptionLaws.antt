-- Going over options, one after another.
use Rattle.std.proofs.Common.{◌≡◌, ℕ, zero, suc, ◌+◌, ◌<◌, ◌≤◌, Bool, true, false, eqb, ltb, ◌||◌, List, [], ◌∷◌}
use Rattle.std.proofs.Common.{length}
use Rattle.std.proofs.Common.{take, drop, Some, None, refl, sym, ap, ◌∙◌, arith}
use Rattle.std.proofs.lemmas.Bool.{lt-ltb, or_left}
use Rattle.em_pcap.specs.declared.order.Order.{Order}
use Rattle.em_pcap.specs.Options.{option_code, option_length, option_value, padded}

-- the octets of an option before are passed
pub passes : (order : Order) (code inside : ℕ) (octets : List ℕ)
    → option_value order code inside octets ≡ option_value order code 0 (drop inside octets)
passes order code zero octets = refl
passes order code (suc inside) [] = refl
passes order code (suc inside) (octet ∷ octets) = passes order code inside octets

-- whether no option is here
abbrev pub is_end : Order → List ℕ → Bool
is_end order head =
    ltb (length head) 4 || eqb (option_code order head) 0 || ltb (length head) (4 + option_length order head)

-- where no option is, there is no value
pub none_at_end : (order : Order) (code : ℕ) (octets : List ℕ) → is_end order octets ≡ true
    → option_value order code 0 octets ≡ None
none_at_end order code [] e = refl
none_at_end order code (octet ∷ octets) e = rw e refl

pub none_in_few : (order : Order) (code : ℕ) (octets : List ℕ) → length octets < 4
    → option_value order code 0 octets ≡ None
none_in_few order code octets h =
    none_at_end order code octets
    (or_left _ _ (or_left _ _ (lt-ltb (length octets) 4 h)))

-- the option here has the code
pub some_here : (order : Order) (code : ℕ) (octets : List ℕ) → 4 ≤ length octets → is_end order octets ≡ false
    → eqb (option_code order octets) code ≡ true
    → option_value order code 0 octets ≡ Some (take (option_length order octets) (drop 4 octets))
some_here order code [] h e f = absurd (omega arith)
some_here order code (octet ∷ octets) h e f = rw (e, f) refl

-- the option here has another code
pub goes_on : (order : Order) (code : ℕ) (octets : List ℕ) → 4 ≤ length octets → is_end order octets ≡ false
    → eqb (option_code order octets) code ≡ false
    → option_value order code 0 octets
    ≡ option_value order code 0 (drop (4 + padded (option_length order octets)) octets)
goes_on order code [] h e f = absurd (omega arith)
goes_on order code (octet ∷ octets) h e f =
    let head = octet ∷ octets in
    let next : option_value order code 0 head ≡ option_value order code (3 + padded (option_length order head)) octets =
    rw (e, f) refl in
    let len : 4 + padded (option_length order head) ≡ suc (3 + padded (option_length order head)) = omega arith in
    next ∙ passes order code (3 + padded (option_length order head)) octets
    ∙ ap (λ n. option_value order code 0 (drop n head)) (sym len)
