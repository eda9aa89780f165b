-- Where a record puts octets back.
use Rattle.std.specs.Prelude.{◌≡◌, ℕ, ◌+◌, ◌<◌, ◌≤◌, List, length, min, max, nat_lt, if◌then◌else◌}
use Rattle.std.specs.Prelude.{Option, Some, None, IfSome, slice_get}
use Rattle.em_mem.specs.Memory.{Patch}

-- the least address from a on where the patch has an octet
abbrev pub next_octet : ℕ → Patch → Option ℕ
next_octet a p = if nat_lt (max p.at a) (p.at + length p.octets) then Some (max p.at a) else None

-- the lesser of two addresses, of those that there are
abbrev pub least : Option ℕ → Option ℕ → Option ℕ
least None l = l
least (Some k) None = Some k
least (Some k) (Some l) = Some (min k l)

-- the next address lies at address a or beyond, and both memories have the same octets from a on up to it; to their end
-- where there is none
pub record SameUpTo (m n : List ℕ) (a : ℕ) (next : Option ℕ) : Type 0 where
  pub from : IfSome next (λ k. a ≤ k)
  pub same : (i : ℕ) → a ≤ i → IfSome next (λ k. i < k) → slice_get m i ≡ slice_get n i
