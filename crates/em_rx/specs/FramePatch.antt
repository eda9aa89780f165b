-- What an arrival replaced in the cells.
use Rattle.std.specs.Prelude.{ℕ, List}
use Rattle.em_rx.specs.declared.places.Entry.{Entry}

-- the octets that lay under the frame, and the entry that lay at its index
pub record FramePatch : Type 0 where
  pub octets : List ℕ
  pub entry : Entry
