-- A script that is read whole.
use Rattle.std.specs.Prelude.{ℕ, Bool, ◌==◌, ◌&&◌, false, List, ◌∷◌}

-- the most octets of a script
abbrev pub most_input : ℕ
most_input = 1073741824

-- the two octets that a file of gzip begins with (RFC 1952, 2.3.1)
abbrev pub is_compressed : List ℕ → Bool
is_compressed (a ∷ b ∷ octets) = a == 0x1F && b == 0x8B
is_compressed _ = false
