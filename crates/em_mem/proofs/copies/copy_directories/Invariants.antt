use Rattle.std.proofs.Common.{◌≡◌, take}
use Rattle.em_mem.specs.Pages.{AllAre, IsWholeDirectory, directories_made, directories_octets}
use Rattle.em_mem.proofs.copies.copy_directories.Given as goal

abbrev pub invariant-loop-k : goal.invariant-loop-k
invariant-loop-k l = record {
  whole : AllAre IsWholeDirectory l.copy;
  octets : directories_octets (take l.k l.copy) ≡ directories_octets (take l.k l.directories);
  made : directories_made (take l.k l.copy) ≡ directories_made (take l.k l.directories);
}
