-- The text of what a record begins with.
use Rattle.std.specs.Prelude.{ℕ, ◌*◌, List, [], ◌++◌, codes, Option, Some, None}
use Rattle.std.specs.List.{flat_map, range_with_len}
use Rattle.em_names.specs.Names.{name_of}
use Rattle.em_regs.specs.Table.{reg_of}
use Rattle.em_regs.specs.declared.profile.Profile.{Profile}
use Rattle.em_regs.specs.declared.profile.Profile.TheVariants.{Table, Adapter}
use Rattle.em_regs.specs.declared.reg.Reg.{Reg}
use Rattle.em_regs.specs.declared.reg.Reg.TheVariants as named
use Rattle.em_step.specs.State.{State}
use Rattle.em_step.specs.Access.{gives}
use Rattle.em_journal.specs.declared.settings.Settings.{Settings}
use Rattle.em_json.specs.Text.{number_text, octets_text}

-- behind the address: the profile, where it is not the first, and the end
abbrev pub settings_end : Profile → List ℕ
settings_end Table = codes "},"
settings_end Adapter = codes ",\"profile\":\"adapter\"},"

-- what a machine is made of
abbrev pub settings_text : Settings → List ℕ
settings_text made =
    number_text (codes "\"settings\":{\"base\":") made.base
    ++ (number_text (codes ",\"memory\":") made.memory
    ++ (number_text (codes ",\"budget\":") made.budget
    ++ (octets_text (codes ",\"mac\":") made.mac ++ settings_end made.profile)))

-- a value under a register's name, behind a text
abbrev pub named_text : List ℕ → Reg → ℕ → List ℕ
named_text before reg value = before ++ (name_of reg ++ number_text (codes "\":") value)

-- the register of a word behind others; nothing where none lies
abbrev pub other_text : State → Option Reg → List ℕ
other_text s None = []
other_text s (Some reg) = named_text (codes ",\"") reg (gives s reg)

abbrev pub word_text : State → ℕ → List ℕ
word_text s word = other_text s (reg_of s.profile (4 * word))

-- n words from one of them on
unfoldable pub words_text : State → ℕ → ℕ → List ℕ
words_text s word n = flat_map (word_text s) (range_with_len word n)

-- all registers by offset: CTRL is the first word of their space
abbrev pub start_text : State → List ℕ
start_text s =
    named_text (codes "\"start\":{\"registers\":{\"") named.Ctrl (gives s named.Ctrl)
    ++ (words_text s 1 0x17FF ++ codes "}}}\n")
