-- What a window of guest memory shows under a record.
use Rattle.std.specs.Prelude.{◌≡◌, ℕ, ◌-◌, List, length, take, drop}
use Rattle.em_mem.specs.Memory.{Patch, part, put}

-- the octets of memory from address a on, as many as the window has, are those of the window
abbrev pub IsWindow : List ℕ → ℕ → List ℕ → Type 0
IsWindow octets a window = part octets a (length window) ≡ window

-- a window from address a on with the patch's octets laid over it: what the patch has before the window or past its end
-- is left out
abbrev pub lay_over : ℕ → List ℕ → Patch → List ℕ
lay_over a window p = take (length window) (put window (p.at - a) (drop (a - p.at) p.octets))
