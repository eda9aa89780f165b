-- The bits of a register that a word names.
use Rattle.std.specs.Prelude.{ℕ, Bool, true, false, ◌==◌, ◌&&◌, bit_or, if◌then◌else◌, List, [], ◌∷◌}
use Rattle.std.specs.Prelude.{Option, Some, None, Result, Ok, Err}
use Rattle.std.specs.List.{slice_split}
use Rattle.em_regs.specs.declared.reg.Reg.{Reg}
use Rattle.em_names.specs.declared.field.Field.{Field}
use Rattle.em_names.specs.declared.field.Form.{Form}
use Rattle.em_names.specs.declared.field.Form.TheVariants.{Bit, Number, Digits, Speed, Size}
use Rattle.em_names.specs.Bits.{Row, table_of}
use Rattle.em_prompt.specs.Register.{same_letters}

abbrev pub is_bar : ℕ → Bool
is_bar octet = octet == 124

abbrev pub is_bit : Form → Bool
is_bit Bit = true
is_bit Number = false
is_bit Digits = false
is_bit Speed = false
is_bit Size = false

-- the bit of this name
abbrev pub bit_among : List Row → List ℕ → Option ℕ
bit_among [] word = None
bit_among (row ∷ rows) word =
    if is_bit row.form && same_letters word row.name then Some row.mask else bit_among rows word

-- a field is a bit of this name
abbrev pub is_called : List ℕ → Field → Bool
is_called word field = is_bit field.form && same_letters word field.name.now

-- what the bit of a word completes; of a word that names none, the word
abbrev pub with_bit : {T : Type 0} → List ℕ → Option ℕ → (ℕ → Result T (List ℕ)) → Result T (List ℕ)
with_bit word None complete = Err word
with_bit word (Some bit) complete = complete bit

-- a value with the bits that these words name; or the first word that names none
abbrev pub bits_with : Reg → ℕ → List (List ℕ) → Result ℕ (List ℕ)
bits_with reg value [] = Ok value
bits_with reg value (word ∷ words) =
    with_bit word (bit_among (table_of reg) word) (λ bit. bits_with reg (bit_or value bit) words)

-- the bits whose names stand in a word with bars between them
abbrev pub bits_of : Reg → List ℕ → Result ℕ (List ℕ)
bits_of reg word = bits_with reg 0 (slice_split is_bar word)
