-- The numbers and the names of a journal's refusals.
use Rattle.std.specs.Prelude.{ℕ, List, codes}
use Rattle.em_journal.specs.declared.refusal.JournalRefusal.{JournalRefusal}
use Rattle.em_journal.specs.declared.refusal.JournalRefusal.TheVariants.{Budget, Memory}

-- of a machine that was not made
abbrev pub code_of : JournalRefusal → ℕ
code_of Budget = 24
code_of Memory = 9

abbrev pub name_of : JournalRefusal → List ℕ
name_of Budget = codes "Budget"
name_of Memory = codes "Memory"

-- of a step back from an empty journal
abbrev pub code_of_empty : ℕ
code_of_empty = 8

abbrev pub name_of_empty : List ℕ
name_of_empty = codes "Empty"
