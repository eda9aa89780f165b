-- What a record tells of what was before.
use Rattle.std.specs.Prelude.{ℕ, ◌+◌, Bool, if◌then◌else◌, List, Option}
use Rattle.em_mem.specs.Extent.{least, next_octet}
use Rattle.em_mem.specs.Window.{lay_over}
use Rattle.em_rx.specs.StepPatch.{StepPatch}

-- how many frames lay in the FIFO before a step after which there are so many: one more where the frame left
abbrev pub frames_before_step : Bool → ℕ → ℕ
frames_before_step left now = if left then now + 1 else now

-- a window of memory from address a on under what a step overwrote, of which the first octets are put back first
abbrev pub laid_step : StepPatch → ℕ → List ℕ → List ℕ
laid_step p a window = lay_over a (lay_over a window p.first) p.second

-- the least address from a on where a step overwrote an octet
abbrev pub next_of_step : StepPatch → ℕ → Option ℕ
next_of_step p a = least (next_octet a p.first) (next_octet a p.second)
