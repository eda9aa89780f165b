use Rattle.std.proofs.Common.{◌≡◌, take}
use Rattle.em_mem.specs.Pages.{AllAre, IsWholePage, pages_made, pages_octets}
use Rattle.em_mem.proofs.copies.copy_pages.Given as goal

abbrev pub invariant-loop-k : goal.invariant-loop-k
invariant-loop-k l = record {
  whole : AllAre IsWholePage l.copy;
  octets : pages_octets (take l.k l.copy) ≡ pages_octets (take l.k l.pages);
  made : pages_made (take l.k l.copy) ≡ pages_made (take l.k l.pages);
}
