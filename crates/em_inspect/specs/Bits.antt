-- The names of a descriptor's bits (manual, chapters on packet reception and transmission: legacy descriptors).
use Rattle.std.specs.Prelude.{ℕ, ◌*◌, ◌/◌, ◌%◌, ◌==◌, if◌then◌else◌, List, [], ◌∷◌, ◌++◌, codes}
use Rattle.em_inspect.specs.declared.descriptor.Bits.{Bits}
use Rattle.em_inspect.specs.declared.descriptor.Bits.TheVariants.{Rx, Tx}

-- a bit's name, where it is set in an octet
abbrev pub named : ℕ → ℕ → List ℕ → List ℕ
named octet bit name = if octet / bit % 2 == 1 then name else []

-- the names of the bits that are set in an octet, from a bit on, and a text behind them
abbrev pub names_then : ℕ → ℕ → List (List ℕ) → List ℕ → List ℕ
names_then octet bit [] text = text
names_then octet bit (name ∷ names) text = named octet bit name ++ names_then octet (2 * bit) names text

-- the bits of a receive descriptor, from bit 0 of its status on, and then from bit 0 of its errors on
abbrev pub rx_text : ℕ → ℕ → List ℕ
rx_text status errors =
    names_then status 1 (codes " DD" ∷ codes " EOP" ∷ codes " IXSM" ∷ codes " VP" ∷ codes " bit4" ∷ codes " TCPCS"
    ∷ codes " IPCS" ∷ codes " PIF" ∷ [])
    (names_then errors 1 (codes " CE" ∷ codes " SE" ∷ codes " SEQ" ∷ codes " bit3" ∷ codes " CXE" ∷ codes " TCPE"
    ∷ codes " IPE" ∷ codes " RXE" ∷ []) [])

-- the bits of a transmit descriptor, from bit 0 of its command on, and then from bit 0 of its status on
abbrev pub tx_text : ℕ → ℕ → List ℕ
tx_text command status =
    names_then command 1 (codes " EOP" ∷ codes " IFCS" ∷ codes " IC" ∷ codes " RS" ∷ codes " RPS" ∷ codes " DEXT"
    ∷ codes " VLE" ∷ codes " IDE" ∷ [])
    (names_then status 1 (codes " DD" ∷ codes " EC" ∷ codes " LC" ∷ codes " TU" ∷ codes " bit4" ∷ codes " bit5"
    ∷ codes " bit6" ∷ codes " bit7" ∷ []) [])

-- the names of the bits that are set, each behind a space
abbrev pub bits_text : Bits → List ℕ
bits_text (Rx status errors) = rx_text status errors
bits_text (Tx command status) = tx_text command status
