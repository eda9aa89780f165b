-- The text of every register that is not zero.
use Rattle.std.specs.Prelude.{ℕ, ◌*◌, ◌==◌, List, [], unwrap_or, if◌then◌else◌}
use Rattle.std.specs.List.{flat_map, range_with_len}
use Rattle.std.specs.Option.{option_map}
use Rattle.em_regs.specs.Table.{reg_of}
use Rattle.em_step.specs.State.{State}
use Rattle.em_step.specs.Access.{gives}
use Rattle.em_text.specs.Writer.{register_line_text}

-- a register that is not zero has a line
abbrev pub register_text : ℕ → ℕ → List ℕ
register_text offset value = if value == 0 then [] else register_line_text offset value

-- what a look at a word of the registers' space shows; where no register lies it is nothing
abbrev pub word_text : State → ℕ → List ℕ
word_text s word = register_text (4 * word) (unwrap_or (option_map (gives s) (reg_of s.profile (4 * word))) 0)

-- n words from one of them on
unfoldable pub words_text : State → ℕ → ℕ → List ℕ
words_text s word n = flat_map (word_text s) (range_with_len word n)

-- all registers, by offset: the words of their space
abbrev pub registers_text : State → List ℕ
registers_text s = words_text s 0 0x01800
