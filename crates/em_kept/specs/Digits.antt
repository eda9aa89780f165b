-- Numbers of what was done.
use Rattle.std.specs.Prelude.{ℕ, true, List}
use Rattle.std.specs.Fmt.{digits}

-- a number in upper case hexadecimal digits, with no zero in front of it
abbrev pub number_digits : ℕ → List ℕ
number_digits number = digits 16 true number
