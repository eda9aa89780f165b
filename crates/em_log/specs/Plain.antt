-- Lines that a driver prints itself: `read 0xOFFSET 0xVALUE` or `write 0xOFFSET 0xVALUE`, with anything before and
-- behind, and `mem 0xADDRESS OCTETS`, with anything before.
use Rattle.std.specs.Prelude.{ℕ, ◌-◌, Bool, false, not, ◌==◌, ◌&&◌, ◌||◌, nat_le, if◌then◌else◌, List, [], ◌∷◌}
use Rattle.std.specs.Prelude.{length, codes, drop, slice_index, Option, Some, None, is_some, option_map}
use Rattle.std.specs.Char.{is_ascii_alphabetic}
use Rattle.std.specs.Str.{str_eq_ignore_ascii_case}
use Rattle.em_text.specs.Words.{words_of}
use Rattle.em_log.specs.declared.told.Way.{Way}
use Rattle.em_log.specs.declared.told.Way.TheVariants.{Read, Write}
use Rattle.em_log.specs.declared.told.Width.TheVariants.{Four}
use Rattle.em_log.specs.declared.told.Told.{Told}
use Rattle.em_log.specs.declared.told.Told.TheVariants.{Access, Memory, Nothing, Fault}
use Rattle.em_log.specs.declared.plain.Said.{Said}
use Rattle.em_log.specs.declared.plain.Said.TheVariants as said
use Rattle.em_text.specs.Numbers.{octets_of}
use Rattle.em_log.specs.Number.{is_hex, hex_in}
use Rattle.em_log.specs.Field.{next_hex}
use Rattle.em_log.specs.Told.{with, access_of}

-- a word ends with a name, in either case of its letters, and no letter stands before that
abbrev pub is_word : List ℕ → List ℕ → Bool
is_word word name = nat_le (length name) (length word)
    && (str_eq_ignore_ascii_case (drop (length word - length name) word) name
    && (length word == length name || not (is_ascii_alphabetic (slice_index word (length word - length name - 1)))))

-- the first of these words begins with `0x`
abbrev pub is_hex_next : List (List ℕ) → Bool
is_hex_next [] = false
is_hex_next (word ∷ words) = is_hex word

-- the first of these words is a number behind `0x`
abbrev pub is_address_next : List (List ℕ) → Bool
is_address_next [] = false
is_address_next (word ∷ words) = is_some (hex_in word)

-- what a word says that a line is of, where the words behind it go on so
abbrev pub said_by : List ℕ → List (List ℕ) → Option Said
said_by word words =
    if is_word word (codes "read") && is_hex_next words then Some (said.Access Read) else
    if is_word word (codes "write") && is_hex_next words then Some (said.Access Write) else
    if is_word word (codes "mem") && is_address_next words then Some said.Memory else
    None

-- that of a word with those behind it, or of a word further on
abbrev pub said_or : Option Said → List (List ℕ) → Option (Said × List (List ℕ)) → Option (Said × List (List ℕ))
said_or None words further = further
said_or (Some said) words further = Some (said, words)

-- what a line is of, by the first of its words that says so, and the words behind that
abbrev pub said_in : List (List ℕ) → Option (Said × List (List ℕ))
said_in [] = None
said_in (word ∷ words) = said_or (said_by word words) words (said_in words)

-- an access that is printed has four octets
abbrev pub valued : Way → ℕ → List (List ℕ) → Told
valued way address words = with (next_hex words) (λ (value, words). access_of way (Some address) (Some value) (Some 4))

-- a read may stand without its value
abbrev pub placed : Way → ℕ → List (List ℕ) → Told
placed Write address words = valued Write address words
placed Read address words =
    if is_hex_next words then valued Read address words
    else Access (record { way = Read; address = address; width = Four; value = None })

-- the offset and the value
abbrev pub access_told : Way → List (List ℕ) → Told
access_told way words = with (next_hex words) (λ (address, words). placed way address words)

-- the address and the digits of the octets, which are the last word
abbrev pub written_by : List (List ℕ) → Option (ℕ × List ℕ)
written_by (address ∷ digits ∷ []) =
    if is_some (octets_of digits) then option_map (λ at. (at, digits)) (hex_in address) else None
written_by _ = None

-- what these words tell of a write into guest memory
abbrev pub memory_told : Option (ℕ × List ℕ) → Told
memory_told None = Fault
memory_told (Some write) = Memory

abbrev pub told_of : Option (Said × List (List ℕ)) → Told
told_of None = Nothing
told_of (Some (said.Access way, words)) = access_told way words
told_of (Some (said.Memory, words)) = memory_told (written_by words)

abbrev pub written_of : Option (Said × List (List ℕ)) → Option (ℕ × List ℕ)
written_of None = None
written_of (Some (said.Access way, words)) = None
written_of (Some (said.Memory, words)) = written_by words

-- what a line tells
unfoldable pub plain_told : List ℕ → Told
plain_told line = told_of (said_in (words_of line))

-- the address and the digits of what a driver wrote into guest memory
unfoldable pub memory_written : List ℕ → Option (ℕ × List ℕ)
memory_written line = written_of (said_in (words_of line))
