-- A frame as it lies in the packet buffer.
use Rattle.std.specs.Prelude.{◌≡◌, ◌++◌}
use Rattle.em_rx.specs.Frame.{Frame}
use Rattle.em_rx.specs.declared.stored.StoredFrame.{StoredFrame}

-- its octets lie so, in one piece or two
pub record LiesSo (frame : Frame) (stored : StoredFrame) : Type 0 where
  pub octets : stored.front.now ++ stored.back.now ≡ frame.octets
  pub tag : stored.tag ≡ frame.tag
