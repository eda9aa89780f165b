-- All registers that are not zero, by offset.
use Rattle.std.specs.Prelude.{ℕ, ◌+◌, ◌*◌, ◌++◌, ◌==◌, zero, suc, nat_lt, if◌then◌else◌, List, [], ◌∷◌, length, drop}
use Rattle.std.specs.Prelude.{Option, Some, None, Result, Ok, Err, slice_set}
use Rattle.em_journal.specs.View.{View}
use Rattle.em_c.specs.declared.all_registers.EmRegister.{EmRegister}
use Rattle.em_c.specs.declared.refused.Refused.{Refused}
use Rattle.em_c.specs.declared.refused.Refused.TheVariants.{Room}
use Rattle.em_c.specs.Looks.{value_at}

abbrev pub as_list : Option EmRegister → List EmRegister
as_list None = []
as_list (Some register) = register ∷ []

-- a register at an offset, if there is one, and it is not zero
abbrev pub shown : ℕ → Result ℕ Refused → List EmRegister
shown o (Ok v) = if v == 0 then [] else record { offset = o; value = v } ∷ []
shown o (Err refused) = []

-- registers are put at a place, and those behind the first at the places behind it
abbrev pub put_at : ℕ → List EmRegister → List EmRegister → List EmRegister
put_at at [] room = room
put_at at (register ∷ rest) room = put_at (at + 1) rest (slice_set room at register)

-- those of the first k words
unfoldable pub registers_below : ℕ → View → List EmRegister
registers_below zero v = []
registers_below (suc k) v = registers_below k v ++ shown (4 * k) (value_at (4 * k) v)

-- all of them lie below 06000h
abbrev pub registers_of : View → Result (List EmRegister) Refused
registers_of v = Ok (registers_below 0x1800 v)

abbrev pub count_of : Result (List EmRegister) Refused → Result ℕ Refused
count_of (Ok registers) = Ok (length registers)
count_of (Err refused) = Err refused

-- they are the first in the room for them, and what lies behind them stays; where the room is too small, none is there
abbrev pub first_in : List EmRegister → Result (List EmRegister) Refused → Result (List EmRegister) Refused
first_in room (Ok registers) =
    if nat_lt (length room) (length registers) then Err Room else Ok (registers ++ drop (length registers) room)
first_in room (Err refused) = Err refused
