-- Why a run stopped.
use Rattle.std.specs.Prelude.{ℕ, List, codes}
use Rattle.em_script.specs.declared.fault.BenchFault.{BenchFault}
use Rattle.em_script.specs.declared.fault.BenchFault.TheVariants.{Read, Write, TooLarge, Memory}

-- the number of a fault
abbrev pub code_of : BenchFault → ℕ
code_of Read = 20
code_of Write = 21
code_of TooLarge = 22
code_of Memory = 9

-- the name of a fault, as it is printed
abbrev pub name_of : BenchFault → List ℕ
name_of Read = codes "Read"
name_of Write = codes "Write"
name_of TooLarge = codes "TooLarge"
name_of Memory = codes "Memory"
