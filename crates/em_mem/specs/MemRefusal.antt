-- The numbers and the names of the refusals.
use Rattle.std.specs.Prelude.{ℕ, List, codes}
use Rattle.em_mem.specs.declared.refusal.MemRefusal.{MemRefusal}
use Rattle.em_mem.specs.declared.refusal.MemRefusal.TheVariants.{Size, Memory}

-- a bad size is 1, and want of memory is 9
abbrev pub code_of : MemRefusal → ℕ
code_of Size = 1
code_of Memory = 9

abbrev pub name_of : MemRefusal → List ℕ
name_of Size = codes "Size"
name_of Memory = codes "Memory"
