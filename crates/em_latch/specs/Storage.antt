-- How the latches keep their registers: the causes, their mask, and then the counters at the places of the table.
use Rattle.std.specs.Prelude.{ℕ, List, ◌∷◌}
use Rattle.em_regs.specs.Table.{registers, is_counter}
use Rattle.em_regs.specs.Storage.{offsets_of}

-- ICR, IMS and every counter
unfoldable pub offsets : List ℕ
offsets = 0x000C0 ∷ 0x000D0 ∷ offsets_of is_counter registers
