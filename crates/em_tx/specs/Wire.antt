-- The frames on the wire as data.
use Rattle.std.specs.Prelude.{◌≡◌, ◌+◌, ◌<◌, ◌≤◌, ℕ, zero, suc, List, [], ◌∷◌, length, vec_capacity, vec_len}
use Rattle.std.specs.List.{between}
use Rattle.em_tx.specs.declared.wire.Frames.{Frames}

-- of octets from place a on, the frames that end at these places
abbrev pub frames_from : ℕ → List ℕ → List ℕ → List (List ℕ)
frames_from a [] octets = []
frames_from a (e ∷ ends) octets = between a e octets ∷ frames_from e ends octets

-- places from a on, none of them before the one ahead of it, and the last one is n
abbrev pub AreEnds : ℕ → List ℕ → ℕ → Type 0
AreEnds a [] n = a ≡ n
AreEnds a (e ∷ ends) n = (a ≤ e) × AreEnds e ends n

-- the octets of each frame
abbrev pub plain : Frames → List (List ℕ)
plain frames = frames_from 0 frames.ends.items frames.octets.items

-- the frames take up all the octets
abbrev pub AreLaid : Frames → Type 0
AreLaid frames = AreEnds 0 frames.ends.items (length frames.octets.items)

-- there is room for one more frame, of n octets
abbrev pub HasRoom : Frames → ℕ → Type 0
HasRoom frames n =
    (vec_len frames.ends < vec_capacity frames.ends) × (vec_len frames.octets + n ≤ vec_capacity frames.octets)

-- the first k frames without their octets
abbrev pub let_go : ℕ → List (List ℕ) → List (List ℕ)
let_go zero frames = frames
let_go (suc k) [] = []
let_go (suc k) (frame ∷ frames) = [] ∷ let_go k frames
