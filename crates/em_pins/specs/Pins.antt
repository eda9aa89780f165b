-- The pins of the EEPROM, as EECD has them (manual, register descriptions): SK 0, CS 1, DI 2, DO 3, FWE 5:4, REQ 6,
-- GNT 7, PRES 8. The part behind them speaks Microwire (manual, EEPROM interface): nine bits are a command, of which 110
-- and six bits of address read. This project's profile: the bus is granted at once, no other command does anything, DO
-- is 1 where nothing is read, and behind the last word comes the first.
use Rattle.std.specs.Prelude.{Bool, not, ◌&&◌, ◌==◌, nat_lt, if◌then◌else◌, ℕ, ◌+◌, ◌-◌, ◌*◌, ◌/◌, ◌%◌, ◌^◌}
use Rattle.std.specs.Prelude.{List, bit_and, ◌<◌, ◌≤◌}
use Rattle.em_eeprom.specs.Eeprom.{word_at}

-- what is kept
pub record State : Type 0 where
  -- what was written last: SK, CS, DI, FWE and REQ
  pub pins : ℕ
  -- how many bits came in since CS rose, of which nine count
  pub count : ℕ
  -- those bits as a number, the first the highest
  pub taken : ℕ
  -- how often SK fell since the ninth; behind the last bit of the last word comes the first of the first
  pub falls : ℕ

-- what can be kept: seven pins, the number of as many bits as came in, and no more falls than all words have bits
abbrev pub IsState : State → Type 0
IsState s = (s.pins < 0x80) × (s.count ≤ 9) × (s.taken < 2 ^ s.count) × (s.falls ≤ 1024)

-- before the first write: FWE is 01b
abbrev pub at_rest : State
at_rest = record { pins = 0x10; count = 0; taken = 0; falls = 0 }

-- bit k of a number
abbrev pub bit : ℕ → ℕ → Bool
bit n k = n / 2 ^ k % 2 == 1

-- CS rises: what came in is forgotten
abbrev pub selected : State → State
selected s = if bit s.pins 1 then s else record s { count = 0; taken = 0; falls = 0 }

-- SK rises: DI is taken
abbrev pub bit_in : State → ℕ → State
bit_in s b = if nat_lt s.count 9 then record s { count = s.count + 1; taken = 2 * s.taken + b } else s

-- SK falls: where nine bits came in, the next bit is given
abbrev pub bit_out : State → State
bit_out s = if nat_lt s.count 9 then s else record s { falls = if nat_lt s.falls 1024 then s.falls + 1 else 1 }

-- an edge of SK, or none
abbrev pub clocked : State → ℕ → State
clocked s v =
    if not (bit s.pins 0) && bit v 0 then bit_in s (v / 4 % 2) else
    if bit s.pins 0 && not (bit v 0) then bit_out s else s

-- a write of EECD: without CS the part hears nothing
abbrev pub after_write : State → ℕ → State
after_write s v = record (if bit v 1 then clocked (selected s) v else s) { pins = bit_and v 0x77 }

-- ---- a read
-- the part is selected, and was told to read: 110 and an address of six bits
abbrev pub is_reading : State → Bool
is_reading s = bit s.pins 1 && s.count == 9 && s.taken / 64 == 6

-- the bit at a place of all words, of each the highest first; behind the last word comes the first
abbrev pub bit_of : List ℕ → ℕ → ℕ
bit_of words n = word_at words (n / 16 % 64) / 2 ^ (15 - n % 16) % 2

-- DO: 0 between the ninth bit and the next fall of SK, then the word's bits and those of the next words; 1 where nothing
-- is read
abbrev pub data_out : List ℕ → State → ℕ
data_out words s =
    if is_reading s then (if s.falls == 0 then 0 else bit_of words (16 * (s.taken % 64) + s.falls - 1)) else 1

-- EECD as it is read: GNT is REQ, and PRES is 1
abbrev pub eecd : List ℕ → State → ℕ
eecd words s = s.pins + 8 * data_out words s + 0x80 * (s.pins / 64 % 2) + 0x100

-- ---- what takes a write back: all that is kept
abbrev pub Fits : State → State → Type 0
Fits s old = Unit {0}

abbrev pub undo : State → State → State
undo s old = old
