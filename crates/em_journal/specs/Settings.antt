-- What settings make, and when they make nothing.
use Rattle.std.specs.Prelude.{◌≡◌, ℕ, List, [], ◌∷◌, codes}
use Rattle.em_mem.specs.Memory.{IsMemoryRange}
use Rattle.em_eeprom.specs.Eeprom.{words_of_mac}
use Rattle.em_regs.specs.declared.profile.Profile.TheVariants.{Table}
use Rattle.em_step.specs.Cells.{fresh_as, shows}
use Rattle.em_journal.specs.Budget.{IsBudget}
use Rattle.em_journal.specs.View.{View, opening}
use Rattle.em_journal.specs.declared.settings.Settings.{Settings}
use Rattle.em_journal.specs.declared.settings.SettingsRefusal.{SettingsRefusal}
use Rattle.em_journal.specs.declared.settings.SettingsRefusal.TheVariants.{Size, Budget, Memory}

-- where nobody says otherwise: the first profile, 64 KiB of memory from address 0 on, 1 MiB for the journal, and an address that is administered locally
abbrev pub defaults : Settings
defaults = record {
  profile = Table;
  base = 0;
  memory = 65_536;
  budget = 1_048_576;
  mac = 0x52 ∷ 0x54 ∷ 0x00 ∷ 0x12 ∷ 0x34 ∷ 0x56 ∷ [];
}

abbrev pub IsDefault : Settings → Type 0
IsDefault settings = settings ≡ defaults

-- of its profile, after a reset, over a memory of zeros from its base on, with the link down and nothing to take back
abbrev pub new_machine : Settings → View
new_machine settings =
    opening settings.budget (shows (fresh_as settings.profile settings.base settings.memory (words_of_mac settings.mac)))

-- memory can lie there, and a journal can be of this size
abbrev pub AreAllowed : Settings → Type 0
AreAllowed settings = IsMemoryRange settings.base settings.memory × IsBudget settings.budget

-- where memory lies is named first, then the budget, and want of memory where neither refuses
abbrev pub IsRefusedAs : Settings → SettingsRefusal → Type 0
IsRefusedAs settings Size = IsMemoryRange settings.base settings.memory → ⊥
IsRefusedAs settings Budget = IsMemoryRange settings.base settings.memory × (IsBudget settings.budget → ⊥)
IsRefusedAs settings Memory = AreAllowed settings

-- the name of what refused settings, as it is printed
abbrev pub name_of : SettingsRefusal → List ℕ
name_of Size = codes "Size"
name_of Budget = codes "Budget"
name_of Memory = codes "Memory"
