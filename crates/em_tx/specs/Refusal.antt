-- The numbers and the names of the refusals.
use Rattle.std.specs.Prelude.{ℕ, List, codes}
use Rattle.em_tx.specs.declared.refusal.TxRefusal.{TxRefusal}
use Rattle.em_tx.specs.declared.refusal.TxRefusal.TheVariants.{DmaRange, Extended, TooLong, Memory}

abbrev pub code_of : TxRefusal → ℕ
code_of DmaRange = 4
code_of Extended = 5
code_of TooLong = 6
code_of Memory = 9

abbrev pub name_of : TxRefusal → List ℕ
name_of DmaRange = codes "DmaRange"
name_of Extended = codes "Extended"
name_of TooLong = codes "TooLong"
name_of Memory = codes "Memory"
