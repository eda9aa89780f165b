-- What octets are refused for before anything is read of them.
use Rattle.std.specs.Prelude.{ℕ, ◌-◌, Bool, not, ◌==◌, ◌||◌, nat_lt, if◌then◌else◌, List, length, take, drop}
use Rattle.std.specs.Prelude.{Option, Some, None}
use Rattle.byteorder.specs.Endian.{little_number}
use Rattle.em_crc.specs.Crc.{crc32}
use Rattle.em_stored.specs.declared.refusal.StoredRefusal.{StoredRefusal}
use Rattle.em_stored.specs.declared.refusal.StoredRefusal.TheVariants.{Magic, Version, Length, Sum}

-- the number in the four octets from a place on
unfoldable pub word_at : ℕ → List ℕ → ℕ
word_at at octets = little_number 4 (drop at octets)

-- the number in the eight octets from a place on
unfoldable pub number_at : ℕ → List ℕ → ℕ
number_at at octets = little_number 8 (drop at octets)

-- they begin with BUNJELAV
abbrev pub is_opened : List ℕ → Bool
is_opened octets = not (nat_lt (length octets) 8 || not (number_at 0 octets == 0x5641_4C45_4A4E_5542))

-- behind which is version 1
abbrev pub is_of_version : List ℕ → Bool
is_of_version octets = not (nat_lt (length octets) 12 || not (word_at 8 octets == 1))

-- they are as many as they say
abbrev pub is_measured : List ℕ → Bool
is_measured octets = not (nat_lt (length octets) 24 || not (number_at (length octets - 12) octets == length octets))

-- the last four are the CRC-32 of all before them
abbrev pub is_summed : List ℕ → Bool
is_summed octets = word_at (length octets - 4) octets == crc32 (take (length octets - 4) octets)

-- the first test that fails
unfoldable pub fault_of : List ℕ → Option StoredRefusal
fault_of octets =
    if not (is_opened octets) then Some Magic
    else if not (is_of_version octets) then Some Version
    else if not (is_measured octets) then Some Length
    else if not (is_summed octets) then Some Sum
    else None
