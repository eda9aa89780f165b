-- What a seal and its parts own is what a box of a machine owns: the walks take the steps of std's boxes at these
-- types.
use mathlib.Core.List.{[]}
use mir.Syntax.{impl, tnil, dnil}
use denote.Signature.{Slot, plain}
use Rattle.std_alloc.proofs.BoxSteps.Form.{Bx}
use Rattle.std_heap.specs.contracts.Global as Heap
use Rattle.std_heap.specs.contracts.GlobalAllocator.TheImpl.{ghosts, dict}
use Rattle.std_heap.proofs.Global.TheLaws as heap
use Rattle.em_c.specs.contracts.tagged.Tagged as Tagged
use Rattle.em_c.proofs.tagged.Tagged.TheLaws as tagged
use Rattle.em_c.specs.contracts.parts.Parts as Parts
use Rattle.em_c.specs.contracts.sealed.Sealed as Sealed

-- a box of a machine, from the heap
abbrev pub E : Bx
E = record {
  row = Tagged.the_row;
  laws = tagged.the_row_laws;
  al = record {
    row = Heap.the_row;
    laws = heap.the_row_laws;
    g = ghosts;
    d = dict;
    drops = impl [] tnil dnil;
  };
}

-- its parts, and its seal
abbrev pub FromParts : Slot 0
FromParts = plain (λ _. Parts.the_row Tagged.the_row Heap.the_row ghosts)

abbrev pub FromSeal : Slot 0
FromSeal = plain (λ _. Sealed.the_row)
