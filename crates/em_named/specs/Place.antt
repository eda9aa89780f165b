-- The line of a place among lines.
use Rattle.std.specs.Prelude.{ℕ, ◌+◌, ◌-◌, nat_le, if◌then◌else◌, zero, suc, List, [], ◌∷◌, length, reverse}
use Rattle.em_named.specs.declared.did.Did.{Did}
use Rattle.em_named.specs.declared.did.Did.TheVariants.{Performed, TookBack}
use Rattle.em_named.specs.declared.place.Place.{Place}

abbrev pub place : ℕ → ℕ → Place
place whole back = record { whole = whole; back = back }

-- of lines with the last one first, so many of whose events are taken back: those that lie ahead with all that they did
-- are left out
abbrev pub without_ahead : List Did → ℕ → Place
without_ahead [] back = place 0 back
without_ahead (Performed k ∷ older) back =
    if nat_le k back then without_ahead older (back - k) else place (suc (length older)) back
without_ahead (TookBack k ∷ older) zero = place (suc (length older)) 0
without_ahead (TookBack k ∷ older) (suc back) = without_ahead older (suc back + k)

abbrev pub kept_of : List Did → ℕ → Place
kept_of did back = without_ahead (reverse did) back

-- the same place with fewer lines, where it is not whole
abbrev pub place_of : List Did → ℕ → Place
place_of did zero = place (length did) 0
place_of did (suc back) = kept_of did (suc back)
