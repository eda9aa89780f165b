-- What a receive step replaced in guest memory, and what it did to the FIFO.
use Rattle.std.specs.Prelude.{Bool}
use Rattle.em_mem.specs.Memory.{Patch}

-- the octets that are put in first, those that are put in after them, and whether the frame left
pub record StepPatch : Type 0 where
  pub first : Patch
  pub second : Patch
  pub left : Bool
