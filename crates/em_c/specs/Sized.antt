-- Accesses of registers by their number of octets.
use Rattle.std.specs.Prelude.{◌≡◌, ℕ, ◌%◌, ◌^◌, Option}
use Rattle.em_step.specs.Event.{writes}
use Rattle.em_c.specs.declared.refused.Refused.TheVariants.{Width}
use Rattle.em_c.specs.declared.tagged.Tagged.{Tagged}
use Rattle.em_c.specs.Calls.{Calls, Reads}
use Rattle.em_c.specs.Refused.{number_of}

-- registers are accessed by words of 32 bits
abbrev pub IsWord : ℕ → Type 0
IsWord octets = octets ≡ 4

-- of a value that is written, as many of the lowest bits
abbrev pub word_of : ℕ → ℕ
word_of value = value % 2 ^ 32

-- an access of another width does nothing, and tells nothing
abbrev pub RefusesWidth : ℕ → Option Tagged → Option Tagged → Type 0
RefusesWidth code before after = (code ≡ number_of Width) × (after ≡ before)

-- a word is read or written as a register is
abbrev pub ReadsWord : Option Tagged → ℕ → ℕ → ℕ → ℕ → Option Tagged → Type 0
ReadsWord = Reads

abbrev pub WritesWord : Option Tagged → ℕ → ℕ → ℕ → Option Tagged → Type 0
WritesWord held offset value = Calls held (writes offset (word_of value))
