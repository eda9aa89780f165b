-- The table of receive addresses, entry by entry.
use Rattle.std.proofs.Common.{◌≡◌, ℕ, ◌==◌, ◌&&◌, ◌||◌, Bool, true, false, cond, List, [], ◌∷◌, refl, ap}
use Rattle.std.specs.Prelude.{map, filter}
use Rattle.std.specs.List.{list_any, range_with_len}
use Rattle.em_regs.specs.Storage.{Registers}
use Rattle.em_filter.specs.Address.{is_valid, entry, is_entry_at, is_in_table}

-- whether one of the values is the address
abbrev has_address : ℕ → List ℕ → Bool
has_address a xs = list_any (λ x. x == a) xs

-- to look through the values of what passes a test is to look for what passes it and has the value
any-cond : (b r : Bool) (x : ℕ) (f : ℕ → ℕ) (a : ℕ) (ys : List ℕ) → has_address a (map f ys) ≡ r
    → has_address a (map f (cond b (x ∷ ys) ys)) ≡ (b && f x == a) || r
any-cond true r x f a ys rest = ap (λ r. (f x == a) || r) rest
any-cond false r x f a ys rest = rest

any-map-filter : (p : ℕ → Bool) (f : ℕ → ℕ) (a : ℕ) (xs : List ℕ)
    → has_address a (map f (filter p xs)) ≡ list_any (λ x. p x && f x == a) xs
any-map-filter p f a [] = refl
any-map-filter p f a (x ∷ xs) = any-cond (p x) _ x f a (filter p xs) (any-map-filter p f a xs)

-- the table has an address where one of the entries does
pub in_table_by_entry : (s : Registers) (a : ℕ)
    → is_in_table s a ≡ list_any (is_entry_at s a) (range_with_len 0 16)
unfolding is_in_table
in_table_by_entry s a = any-map-filter (is_valid s) (entry s) a (range_with_len 0 16)
