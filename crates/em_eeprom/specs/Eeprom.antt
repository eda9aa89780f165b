-- The words of an EEPROM, and what they mean.
use Rattle.std.specs.Prelude.{◌≡◌, ℕ, ◌+◌, ◌-◌, ◌*◌, ◌/◌, ◌%◌, ◌<◌, List, [], ◌∷◌, ◌++◌}
use Rattle.std.specs.Prelude.{length, sum, replicate, slice_index, EachIndex}

-- 64 words of 16 bits
pub record IsEeprom (words : List ℕ) : Type 0 where
  pub count : length words ≡ 64
  pub small : EachIndex words (λ a. slice_index words a < 0x1_0000)

-- the word at an address: past the last word it is 0
abbrev pub word_at : List ℕ → ℕ → ℕ
word_at words a = slice_index words a

-- the low and the high octet of a word
abbrev pub low : ℕ → ℕ
low word = word % 256

abbrev pub high : ℕ → ℕ
high word = word / 256

-- the Ethernet address: words 0 to 2, the low octet of each first
abbrev pub mac_of : List ℕ → List ℕ
mac_of words =
    low (word_at words 0) ∷ high (word_at words 0) ∷ low (word_at words 1) ∷ high (word_at words 1)
    ∷ low (word_at words 2) ∷ high (word_at words 2) ∷ []

-- the words sum to BABA, modulo 65,536
abbrev pub IsSummed : List ℕ → Type 0
IsSummed words = sum words % 0x1_0000 ≡ 0xBABA

-- the words that hold an address
abbrev pub address_words : List ℕ → List ℕ
address_words mac =
    (slice_index mac 0 + 256 * slice_index mac 1) ∷ (slice_index mac 2 + 256 * slice_index mac 3)
    ∷ (slice_index mac 4 + 256 * slice_index mac 5) ∷ []

-- what is to be added to three words for BABA, modulo 65,536
abbrev pub rest_of : ℕ → ℕ
rest_of total = (0x3_BABA - total) % 0x1_0000

-- the 64 words for an address: its words, zeros, and last the one that makes the sum come out
abbrev pub words_of_mac : List ℕ → List ℕ
words_of_mac mac = address_words mac ++ (replicate 60 0 ++ rest_of (sum (address_words mac)) ∷ [])
