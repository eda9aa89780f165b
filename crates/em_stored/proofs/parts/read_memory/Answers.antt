use Rattle.std.proofs.Common.{◌+◌, ap, ◌∙◌, length}
use Rattle.em_mem.specs.Memory.{Cells}
use Rattle.em_mem.proofs.RowLaws.{length-zeros}
use Rattle.em_stored.proofs.parts.read_memory.Goals as goal

pub loop-k-init : goal.loop-k-init
loop-k-init c = record {
  base = ap (λ (m : Cells). m.base) c.in_ok-memory.ensures.ok;
  end = ap (λ (m : Cells). length m.octets) c.in_ok-memory.ensures.ok ∙ length-zeros (c.args.base + c.args.size);
}
