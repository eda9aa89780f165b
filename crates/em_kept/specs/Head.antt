-- What a kept run begins with.
use Rattle.std.specs.Prelude.{ℕ, Bool, ◌==◌, if◌then◌else◌, List, [], ◌∷◌, ◌++◌, codes}
use Rattle.std.specs.Int.{w16, w64, to_be_bytes}
use Rattle.std.specs.List.{flat_map, list_all, range_with_len}
use Rattle.em_eeprom.specs.Eeprom.{mac_of, word_at, words_of_mac}
use Rattle.em_regs.specs.declared.profile.Profile.{Profile}
use Rattle.em_regs.specs.declared.profile.Profile.TheVariants.{Table, Adapter}
use Rattle.em_text.specs.Writer.{hex_line_text, hex_text}
use Rattle.em_kept.specs.Kept.{numbers_behind}

-- the address, and the end of the line
abbrev pub mac_text : List ℕ → List ℕ
mac_text mac = codes " --mac " ++ hex_line_text mac

-- an address in 16 digits
abbrev pub address_digits : ℕ → List ℕ
address_digits addr = hex_text (to_be_bytes w64 addr)

-- where memory begins
abbrev pub marked_base_text : ℕ → List ℕ
marked_base_text base = codes " --base " ++ address_digits base

-- where that is not at address 0
abbrev pub base_text : ℕ → List ℕ
base_text base = if base == 0 then [] else marked_base_text base

-- the profile, where it is not the first
abbrev pub profile_text : Profile → List ℕ
profile_text Table = []
profile_text Adapter = codes " --profile adapter"

abbrev pub profile_and_mac_text : Profile → List ℕ → List ℕ
profile_and_mac_text profile mac = profile_text profile ++ mac_text mac

-- what stands behind memory and budget
abbrev pub behind_budget : Profile → ℕ → List ℕ → List ℕ
behind_budget profile base mac = base_text base ++ profile_and_mac_text profile mac

-- the words of a command line
abbrev pub settings_text : Profile → ℕ → ℕ → ℕ → List ℕ → List ℕ
settings_text profile base memory budget mac =
    numbers_behind (codes "# em_debug --memory ") memory (codes " --budget ") budget
    ++ behind_budget profile base mac

-- ---- the EEPROM

-- two of them have the same first n words
unfoldable pub same_below : List ℕ → List ℕ → ℕ → Bool
same_below words others n = list_all (λ at. word_at words at == word_at others at) (range_with_len 0 n)

-- the words are those that a command line gives it for its address
abbrev pub is_of_mac : List ℕ → Bool
is_of_mac words = same_below words (words_of_mac (mac_of words)) 64

-- a word in 4 digits
abbrev pub word_digits : ℕ → List ℕ
word_digits word = hex_text (to_be_bytes w16 word)

-- so many words from one on
unfoldable pub words_from : List ℕ → ℕ → ℕ → List ℕ
words_from words at n = flat_map (λ at. word_digits (word_at words at)) (range_with_len at n)

-- all of them, and the end of the line
abbrev pub words_line_text : List ℕ → List ℕ
words_line_text words = words_from words 0 64 ++ codes "\n"

abbrev pub marked_words_text : List ℕ → List ℕ
marked_words_text words = codes "# eeprom " ++ words_line_text words

-- where they are others
abbrev pub words_text : List ℕ → List ℕ
words_text words = if is_of_mac words then [] else marked_words_text words

abbrev pub head_text : Profile → ℕ → ℕ → ℕ → List ℕ → List ℕ
head_text profile base memory budget words =
    settings_text profile base memory budget (mac_of words) ++ words_text words

-- ---- line by line

abbrev pub settings_line : Profile → ℕ → ℕ → ℕ → List ℕ → List ℕ
settings_line profile base memory budget mac =
    numbers_behind (codes "# em_debug --memory ") memory (codes " --budget ") budget
    ++ (base_text base ++ (profile_text profile ++ (codes " --mac " ++ hex_text mac)))

abbrev pub words_line : List ℕ → List ℕ
words_line words = codes "# eeprom " ++ words_from words 0 64

abbrev pub head_lines : Profile → ℕ → ℕ → ℕ → List ℕ → List (List ℕ)
head_lines profile base memory budget words =
    settings_line profile base memory budget (mac_of words) ∷ (if is_of_mac words then [] else words_line words ∷ [])
