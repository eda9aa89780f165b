-- The number and the name of the refusal of a call without a driver.
use Rattle.std.specs.Prelude.{ℕ, List, codes}

abbrev pub code_of : ℕ
code_of = 23

abbrev pub name_of : List ℕ
name_of = codes "NoDriver"
