-- What a seal and its parts own is what a box of the frames of a capture owns: the walks take the steps of std's boxes at
-- these types.
use mathlib.Core.List.{[]}
use mir.Syntax.{impl, tnil, dnil}
use denote.Signature.{Slot, plain}
use Rattle.std_alloc.proofs.BoxSteps.Form.{Bx}
use Rattle.std_heap.specs.contracts.Global as Heap
use Rattle.std_heap.specs.contracts.GlobalAllocator.TheImpl.{ghosts, dict}
use Rattle.std_heap.proofs.Global.TheLaws as heap
use Rattle.em_c.specs.contracts.captured.Frames as Frames
use Rattle.em_c.proofs.captured.Frames.TheLaws as captured
use Rattle.em_c.specs.contracts.parts.Parts as Parts
use Rattle.em_c.specs.contracts.sealed_frames.SealedFrames as Sealed

-- a box of the frames of a capture, from the heap
abbrev pub E : Bx
E = record {
  row = Frames.the_row;
  laws = captured.the_row_laws;
  al = record {
    row = Heap.the_row;
    laws = heap.the_row_laws;
    g = ghosts;
    d = dict;
    drops = impl [] tnil dnil;
  };
}

-- its parts, and its seal
abbrev pub FromParts : Slot 0
FromParts = plain (λ _. Parts.the_row Frames.the_row Heap.the_row ghosts)

abbrev pub FromSeal : Slot 0
FromSeal = plain (λ _. Sealed.the_row)
