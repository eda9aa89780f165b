-- More made pages of guest memory leave each record fitting.
use Rattle.em_mem.specs.Memory as memory
use Rattle.em_mem.proofs.MadePages as memory_laws
use Rattle.em_rx.specs.Fifo.{Cells}
use Rattle.em_rx.specs.Undo.{Fits, undo_memory}
use Rattle.em_rx.specs.RxUndo.{RxUndo, Nothing, Places, Frame, Step}

-- what fits still fits where more pages are made
pub fits_after : (c : Cells) (m n : memory.Cells) (r : RxUndo) → memory.MorePages m n → Fits c m r → Fits c n r
fits_after c m n Nothing more fits = fits
fits_after c m n (Places places) more fits = fits
fits_after c m n (Frame patch) more fits = fits
fits_after c m n (Step patch) more fits = record {
  first = memory_laws.fits_after m n patch.first more fits.first;
  second =
      memory_laws.fits_after (memory.undo m patch.first) (memory.undo n patch.first) patch.second
      (memory_laws.undo_after m n patch.first more) fits.second;
  sound = fits.sound;
}

-- an undo leaves as many pages more made as there were
pub undo_after : (m n : memory.Cells) (r : RxUndo) → memory.MorePages m n →
    memory.MorePages (undo_memory m r) (undo_memory n r)
undo_after m n Nothing more = more
undo_after m n (Places places) more = more
undo_after m n (Frame patch) more = more
undo_after m n (Step patch) more =
    memory_laws.undo_after (memory.undo m patch.first) (memory.undo n patch.first) patch.second
    (memory_laws.undo_after m n patch.first more)
