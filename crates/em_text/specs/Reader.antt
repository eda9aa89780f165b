-- How long a script may be.
use Rattle.std.specs.Prelude.{ℕ}

-- the most octets
abbrev pub most_script : ℕ
most_script = 4194304
