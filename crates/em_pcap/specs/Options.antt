-- The options of a block: each has option_code, option_length, and so many octets, padded to a multiple of 4.
use Rattle.std.specs.Prelude.{ℕ, zero, suc, ◌+◌, ◌*◌, ◌/◌, ◌==◌, ◌||◌, nat_lt, if◌then◌else◌, is_some, slice_get}
use Rattle.std.specs.Prelude.{List, [], ◌∷◌, length, take, drop, Option, Some, None}
use Rattle.em_pcap.specs.declared.order.Order.{Order}
use Rattle.em_pcap.specs.Fields.{u16}
use Rattle.em_pcap.specs.Fcs.{if_fcslen, fcs_in}

abbrev pub option_code : Order → List ℕ → ℕ
option_code order octets = u16 order 0 octets

abbrev pub option_length : Order → List ℕ → ℕ
option_length order octets = u16 order 2 octets

-- so many octets and their padding
abbrev pub padded : ℕ → ℕ
padded len = (len + 3) / 4 * 4

-- the value of the option here if it has this code, or else what is found further on. No option is here where fewer
-- octets are than its head, at an opt_endofopt, and where fewer octets are than its length says
abbrev pub option_or : Order → ℕ → List ℕ → Option (List ℕ) → Option (List ℕ)
option_or order code head further =
    let len = option_length order head in
    if nat_lt (length head) 4 || (option_code order head == 0) || nat_lt (length head) (4 + len) then None
    else if option_code order head == code then Some (take len (drop 4 head))
    else further

-- the value of the first option with this code, behind `inside` octets of an option before it
abbrev pub option_value : Order → ℕ → ℕ → List ℕ → Option (List ℕ)
option_value order code inside [] = None
option_value order code (suc inside) (octet ∷ octets) = option_value order code inside octets
option_value order code zero (octet ∷ octets) =
    let head = octet ∷ octets in
    option_or order code head (option_value order code (3 + padded (option_length order head)) octets)

-- if_tsresol: how fine an interface's clock is
abbrev pub if_tsresol : ℕ
if_tsresol = 9

-- if_tsoffset: seconds to be added to its times
abbrev pub if_tsoffset : ℕ
if_tsoffset = 14

-- how many nanoseconds a second, a tenth of it, and so on down to a billionth has
abbrev pub decimal_ticks : List ℕ
decimal_ticks =
    1000000000 ∷ 100000000 ∷ 10000000 ∷ 1000000 ∷ 100000 ∷ 10000 ∷ 1000 ∷ 100 ∷ 10 ∷ 1 ∷ []

-- of an if_tsresol: the negative power of 10. A finer one, or a power of 2, is not read
abbrev pub tick_in : List ℕ → Option ℕ
tick_in [] = None
tick_in (power ∷ []) = slice_get decimal_ticks power
tick_in (power ∷ more ∷ octets) = None

-- without if_tsresol a clock counts microseconds
abbrev pub tick_or_usual : Option (List ℕ) → Option ℕ
tick_or_usual None = Some 1000
tick_or_usual (Some value) = tick_in value

-- how many nanoseconds an interface's clock counts as one, by its options; not known where seconds are to be added
unfoldable pub tick_of : Order → List ℕ → Option ℕ
tick_of order options =
    if is_some (option_value order if_tsoffset 0 options) then None
    else tick_or_usual (option_value order if_tsresol 0 options)

-- without if_fcslen no frame check sequence is there
abbrev pub fcs_or_none : Option (List ℕ) → Option ℕ
fcs_or_none None = Some 0
fcs_or_none (Some value) = fcs_in value

-- how many octets of a frame check sequence follow each frame, by an interface's options
unfoldable pub fcs_of : Order → List ℕ → Option ℕ
fcs_of order options = fcs_or_none (option_value order if_fcslen 0 options)
