-- How an answer differs from the one that was expected.
use Rattle.std.specs.Prelude.{ℕ, ◌==◌, if◌then◌else◌, List, [], ◌++◌, codes, length, map, slice_index}
use Rattle.std.specs.Prelude.{Option, Some, None, option_map}
use Rattle.std.specs.Int.{w32, from_be_bytes}
use Rattle.std.specs.List.{flat_map, range_with_len}
use Rattle.std.specs.Result.{result_ok}
use Rattle.hex.specs.Hex.{decode_sized}
use Rattle.em_regs.specs.declared.profile.Profile.TheVariants.{Adapter}
use Rattle.em_regs.specs.Table.{reg_of}
use Rattle.em_regs.specs.declared.reg.Reg.{Reg}
use Rattle.em_step.specs.Event.{Event, reads}
use Rattle.em_names.specs.Bits.{Row, four_digits, number_in, table_of}
use Rattle.em_names.specs.declared.field.Form.{Form}
use Rattle.em_names.specs.declared.field.Form.TheVariants.{Bit}
use Rattle.em_expect.specs.Agreement.{eight_digits, first_line}

-- ---- the register

-- the register that an event reads
abbrev pub register_of : Option Event → Option Reg
register_of (Some (reads offset)) = reg_of Adapter offset
register_of _ = None

-- ---- values

-- the value that 8 hexadecimal digits write
abbrev pub value_in : List ℕ → Option ℕ
value_in digits = option_map (from_be_bytes w32) (result_ok (decode_sized digits 4))

-- a dash wants the digit that is there
abbrev pub wanted_digit : List ℕ → List ℕ → ℕ → ℕ
wanted_digit expected there at =
    if slice_index expected at == 45 then slice_index there at else slice_index expected at

abbrev pub wanted_digits : List ℕ → List ℕ → List ℕ
wanted_digits expected there = map (wanted_digit expected there) (range_with_len 0 8)

-- the value that is wanted, where a number is expected and a value is there
abbrev pub wanted_of : Option (List ℕ) → List ℕ → Option ℕ
wanted_of None there = None
wanted_of (Some digits) there = value_in (wanted_digits digits there)

abbrev pub wanted_value : List ℕ → List ℕ → Option ℕ
wanted_value expected there = if length there == 8 then wanted_of (eight_digits expected) there else None

-- ---- what is written

abbrev pub holds_text : List ℕ → List ℕ → List ℕ
holds_text name what = codes ", " ++ (name ++ (codes " is " ++ what))

-- what a bit or a field holds
abbrev pub held_text : Form → ℕ → List ℕ
held_text Bit number = if number == 0 then codes "clear" else codes "set"
held_text _ number = four_digits number

-- a bit or a field, if it holds something else than is wanted
abbrev pub field_text : ℕ → ℕ → Row → List ℕ
field_text wanted value row =
    if number_in value row == number_in wanted row then []
    else holds_text row.name (held_text row.form (number_in value row))

-- each that differs
abbrev pub fields_text : Option Reg → Option ℕ → Option ℕ → List ℕ
fields_text (Some reg) (Some wanted) (Some value) = flat_map (field_text wanted value) (table_of reg)
fields_text _ _ _ = []

abbrev pub told_text : Option Reg → List ℕ → List ℕ → List ℕ
told_text read expected there = fields_text read (wanted_value expected there) (value_in there)

-- how an answer differs from the expected one, where this register was read
abbrev pub difference_text : Option Reg → List ℕ → List ℕ → List ℕ
difference_text read expected answer =
    (codes "differs: " ++ (expected ++ codes " wanted")) ++ (told_text read expected (first_line answer) ++ codes "\n")
