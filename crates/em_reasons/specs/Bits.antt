-- The bit of a number of 12 bits in a table of 128 words: bits 11:5 name the word, bits 4:0 the bit there.
use Rattle.std.specs.Prelude.{ℕ, ◌/◌, ◌%◌}

abbrev pub word_of : ℕ → ℕ
word_of number = number / 32 % 128

abbrev pub bit_of : ℕ → ℕ
bit_of number = number % 32
