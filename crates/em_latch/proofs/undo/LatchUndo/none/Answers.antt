use Rattle.std.proofs.Common.{refl}
use Rattle.em_latch.specs.declared.undo.TheConstants.{MOST_OCTETS}
use Rattle.em_latch.proofs.RecordLaws.{growths_of-end}
use Rattle.em_latch.proofs.undo.LatchUndo.none.Goals as goal

pub returns : goal.returns
returns c = growths_of-end MOST_OCTETS 0 refl
