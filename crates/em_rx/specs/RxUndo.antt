-- What takes a change of the receive side back, wherever its octets lie.
use Rattle.em_rx.specs.FramePatch.{FramePatch}
use Rattle.em_rx.specs.StepPatch.{StepPatch}
use Rattle.em_rx.specs.declared.places.Places as places

pub data RxUndo : Type 0 where
  -- nothing changed
  Nothing : RxUndo
  -- the places, of a FIFO that was cleared
  Places : places.Places → RxUndo
  -- what an arrival replaced
  Frame : FramePatch → RxUndo
  -- what a receive step replaced
  Step : StepPatch → RxUndo
