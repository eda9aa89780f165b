-- Numbers, words and octets behind a text.
use Rattle.std.specs.Prelude.{ℕ, Bool, if◌then◌else◌, List, ◌++◌, codes, decimal}
use Rattle.em_text.specs.Writer.{hex_text}

abbrev pub number_text : List ℕ → ℕ → List ℕ
number_text before number = before ++ decimal number

-- two numbers, which end a list
abbrev pub numbers_text : List ℕ → ℕ → ℕ → List ℕ
numbers_text before first second = before ++ (decimal first ++ (codes "," ++ (decimal second ++ codes "]")))

abbrev pub flag_text : List ℕ → Bool → List ℕ
flag_text before flag = before ++ (if flag then codes "true" else codes "false")

-- octets as a string of digits
abbrev pub octets_text : List ℕ → List ℕ → List ℕ
octets_text before octets = (before ++ codes "\"") ++ (hex_text octets ++ codes "\"")
