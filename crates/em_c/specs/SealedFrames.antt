-- What the handle of a capture owns.
use Rattle.std.specs.Prelude.{Option, Some, None}
use base.Fml.{Fml, ftrue}
use denote.RawPtr.{Ptr}
use Rattle.std.specs.Box.Ownership.{box_owns}
use Rattle.std.specs.Global.{Global}
use Rattle.std.specs.contracts.impls.GlobalAllocator.TheImpl.{ghosts}
use Rattle.em_c.specs.contracts.captured.Frames.{the_row}

-- the frames at the pointer, and the right to free its block; or nothing
abbrev pub sealed_owns : Global → Ptr → Option the_row.Denot → Fml
sealed_owns alloc ptr None = ftrue
sealed_owns alloc ptr (Some frames) = box_owns (ghosts.dealloc_token alloc) the_row ptr frames
