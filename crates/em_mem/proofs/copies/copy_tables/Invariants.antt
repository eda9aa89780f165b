use Rattle.std.proofs.Common.{◌≡◌, take}
use Rattle.em_mem.specs.Pages.{AllAre, IsWholeTable, tables_made, tables_octets}
use Rattle.em_mem.proofs.copies.copy_tables.Given as goal

abbrev pub invariant-loop-k : goal.invariant-loop-k
invariant-loop-k l = record {
  whole : AllAre IsWholeTable l.copy;
  octets : tables_octets (take l.k l.copy) ≡ tables_octets (take l.k l.tables);
  made : tables_made (take l.k l.copy) ≡ tables_made (take l.k l.tables);
}
