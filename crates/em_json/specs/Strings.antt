-- Strings of JSON, of octets that may be any.
use Rattle.std.specs.Prelude.{ℕ, ◌==◌, nat_lt, if◌then◌else◌, List, [], ◌∷◌, ◌++◌, codes, length}
use Rattle.std.specs.List.{flat_map}
use Rattle.std.specs.Str.Lossy.{replacement_bytes, utf8_lossy}
use Rattle.em_text.specs.Lines.{lines_of}
use Rattle.em_text.specs.Writer.{hex_text}

-- an octet of a text: a quotation mark and a backslash behind a backslash, `<` and what lies below a space by a number
abbrev pub octet_text : ℕ → List ℕ
octet_text octet =
    if octet == 0x22 then codes "\\\"" else
    if octet == 0x5C then codes "\\\\" else
    if octet == 0x3C then codes "\\u003c" else
    if nat_lt octet 0x20 then codes "\\u00" ++ hex_text (octet ∷ []) else octet ∷ []

abbrev pub escaped : List ℕ → List ℕ
escaped text = flat_map octet_text text

-- a run of text, and U+FFFD where octets come behind it that are none
abbrev pub chunk_text : List ℕ → List ℕ → List ℕ
chunk_text valid invalid = escaped valid ++ (if length invalid == 0 then [] else replacement_bytes)

-- a string: the text that `from_utf8_lossy` makes of octets, escaped, between quotation marks
abbrev pub string_text : List ℕ → List ℕ
string_text octets = codes "\"" ++ (escaped (utf8_lossy octets) ++ codes "\"")

-- strings, each behind a comma
abbrev pub joined_behind : List (List ℕ) → List ℕ
joined_behind lines = flat_map (λ line. codes "," ++ string_text line) lines

-- strings, with a comma between two
abbrev pub joined : List (List ℕ) → List ℕ
joined [] = []
joined (line ∷ lines) = string_text line ++ joined_behind lines

-- the lines of a text as a list of strings
abbrev pub strings_text : List ℕ → List ℕ
strings_text text = codes "[" ++ (joined (lines_of text) ++ codes "]")
