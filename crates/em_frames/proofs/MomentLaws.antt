-- Numbers that are read digit by digit.
use Rattle.std.proofs.Common.{◌≡◌, ℕ, ◌≤◌, List, [], ◌∷◌, None, refl}
use Rattle.std.proofs.lemmas.Bool.{le-ltb}
use Rattle.em_frames.specs.Moment.{digits_behind}

-- where it is too large already, none is read
pub none_beyond : (before : ℕ) (text : List ℕ) → 4294967296 ≤ before → digits_behind before text ≡ None
none_beyond before [] le = rw (le-ltb before 4294967296 le) refl
none_beyond before (octet ∷ octets) le = rw (le-ltb before 4294967296 le) refl
