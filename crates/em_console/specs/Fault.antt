-- The numbers and names of a console's faults.
use Rattle.std.specs.Prelude.{ℕ, List, codes}
use Rattle.em_console.specs.declared.fault.ConsoleFault.{ConsoleFault}
use Rattle.em_console.specs.declared.fault.ConsoleFault.TheVariants.{Read, Write, Memory}

abbrev pub code_of : ConsoleFault → ℕ
code_of Read = 20
code_of Write = 21
code_of Memory = 9

abbrev pub name_of : ConsoleFault → List ℕ
name_of Read = codes "Read"
name_of Write = codes "Write"
name_of Memory = codes "Memory"
