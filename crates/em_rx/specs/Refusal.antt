-- The numbers and the names of the refusals.
use Rattle.std.specs.Prelude.{ℕ, List, codes}
use Rattle.em_rx.specs.declared.refusal.RxRefusal.{RxRefusal}
use Rattle.em_rx.specs.declared.refusal.RxRefusal.TheVariants.{DmaRange, Memory}

-- a descriptor or a buffer outside guest memory is 4, and want of memory is 9
abbrev pub code_of : RxRefusal → ℕ
code_of DmaRange = 4
code_of Memory = 9

abbrev pub name_of : RxRefusal → List ℕ
name_of DmaRange = codes "DmaRange"
name_of Memory = codes "Memory"
