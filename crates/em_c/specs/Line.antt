-- A line of text in a struct.
use Rattle.std.specs.Prelude.{◌≡◌, ℕ, ◌++◌, ◌-◌, nat_lt, if◌then◌else◌, List, [], length, drop, take, replicate}
use Rattle.std.specs.Prelude.{Result, Ok, Err}
use Rattle.em_c.specs.declared.refused.Refused.{Refused}
use Rattle.em_c.specs.declared.refused.Refused.TheVariants.{Room}

-- where none stands
abbrev pub no_line : List ℕ
no_line = replicate 256 0

-- a text, and at least one zero behind it; a longer one has no line, and no struct holds that
abbrev pub line_of : List ℕ → List ℕ
line_of text = if nat_lt (length text) 256 then text ++ drop (length text) no_line else []

-- a text without its newline
abbrev pub without_end : List ℕ → List ℕ
without_end text = take (length text - 1) text

-- this is told, or its text has no room
abbrev pub IsTold : {X : Type 0} → Result X Refused → X → Type 0
IsTold (Ok x) told = x ≡ told
IsTold (Err refused) told = refused ≡ Room
