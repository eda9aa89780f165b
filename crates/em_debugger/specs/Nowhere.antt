-- What is said where a line that was typed accesses no register, and is answered all the same.
use Rattle.std.specs.Prelude.{◌≡◌, ℕ, true, List, [], ◌++◌, codes, map, IfSome, Option, Some, None}
use Rattle.std.specs.Char.{to_ascii_uppercase}
use Rattle.em_inspect.specs.AddressText.{address_text}
use Rattle.em_names.specs.Names.{name_of}
use Rattle.em_prompt.specs.Nowhere.{Nowhere, is_meant}
use Rattle.em_regs.specs.declared.reg.Reg.{Reg}

abbrev pub near_text : Reg → List ℕ
near_text reg = codes ", near: " ++ name_of reg

abbrev pub meant_text : Option Reg → List ℕ
meant_text None = []
meant_text (Some reg) = near_text reg

-- where, and which register may be meant
abbrev pub nowhere_text : ℕ → Option Reg → List ℕ
nowhere_text offset meant = codes "no register lies at " ++ (address_text offset ++ (meant_text meant ++ codes "\n"))

-- one that may be meant is nearly what was typed, in either case
pub record SaysNowhere (nowhere : Nowhere) (text : List ℕ) : Type 0 where
  pub meant : Option Reg
  pub near : IfSome meant (λ reg. is_meant (map to_ascii_uppercase nowhere.word) reg ≡ true)
  pub told : text ≡ nowhere_text nowhere.offset meant

abbrev pub TellsNowhere : Option Nowhere → List ℕ → Type 0
TellsNowhere None text = text ≡ []
TellsNowhere (Some nowhere) text = SaysNowhere nowhere text
