-- Lines that look like accesses, whatever form they have: `read at 0x8 = 0x5`, `writel(0x2, 0x0100)`.
use Rattle.std.specs.Prelude.{ℕ, Bool, false, not, ◌&&◌, ◌||◌, nat_le, List, [], ◌∷◌, length, codes, take}
use Rattle.std.specs.Char.{is_ascii_alphabetic}
use Rattle.std.specs.Str.{str_eq_ignore_ascii_case}
use Rattle.em_log.specs.Number.{is_hex}

-- a text begins with a name, in either case of its letters
abbrev pub begins_so : List ℕ → List ℕ → Bool
begins_so text name =
    nat_le (length name) (length text) && str_eq_ignore_ascii_case (take (length name) text) name

abbrev pub names_way : List ℕ → Bool
names_way text = begins_so text (codes "read") || begins_so text (codes "write")

-- `0x` stands somewhere in a text
abbrev pub has_hex : List ℕ → Bool
has_hex [] = false
has_hex (octet ∷ octets) = is_hex (octet ∷ octets) || has_hex octets

-- the name of a way stands in a text that may be behind a letter, with no letter before it, and `0x` behind it
abbrev pub looks_from : Bool → List ℕ → Bool
looks_from behind_letter [] = false
looks_from behind_letter (octet ∷ octets) =
    (not behind_letter && (names_way (octet ∷ octets) && has_hex octets))
    || looks_from (is_ascii_alphabetic octet) octets

-- a line looks like an access
abbrev pub looks_like_access : List ℕ → Bool
looks_like_access line = looks_from false line
