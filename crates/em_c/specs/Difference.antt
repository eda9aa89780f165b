-- Where two lists of octets differ that are of one length.
use Rattle.std.specs.Prelude.{ℕ, ◌==◌, zero, suc, Bool, true, List, ◌∷◌, if◌then◌else◌}

-- how many octets at the head are the same
unfoldable pub same_at_head : List ℕ → List ℕ → ℕ
same_at_head (x ∷ xs) (y ∷ ys) = if x == y then suc (same_at_head xs ys) else 0
same_at_head xs ys = 0

-- one octet before these: it counts where it differs, or one of them does
abbrev pub counted : ℕ → Bool → ℕ
counted zero true = 0
counted n same = suc n

-- how many octets there are up to the last that differs; 0 where none does
unfoldable pub up_to_last : List ℕ → List ℕ → ℕ
up_to_last (x ∷ xs) (y ∷ ys) = counted (up_to_last xs ys) (x == y)
up_to_last xs ys = 0
