-- The numbers and the names of the refusals.
use Rattle.std.specs.Prelude.{ℕ, List, codes}
use Rattle.em_step.specs.declared.refusal.Refusal.{Refusal}
use Rattle.em_step.specs.declared.refusal.Refusal.TheVariants.{NoRegister, Range, Length, DmaRange, Extended}
use Rattle.em_step.specs.declared.refusal.Refusal.TheVariants.{TooLong, Memory}

abbrev pub code_of : Refusal → ℕ
code_of NoRegister = 1
code_of Range = 2
code_of Length = 3
code_of DmaRange = 4
code_of Extended = 5
code_of TooLong = 6
code_of Memory = 9

abbrev pub name_of : Refusal → List ℕ
name_of NoRegister = codes "NoRegister"
name_of Range = codes "Range"
name_of Length = codes "Length"
name_of DmaRange = codes "DmaRange"
name_of Extended = codes "Extended"
name_of TooLong = codes "TooLong"
name_of Memory = codes "Memory"
