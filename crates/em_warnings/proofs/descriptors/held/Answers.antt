use Rattle.std.proofs.Common.{◌+◌, ◌<◌, Bool, Some, None, length, if◌then◌else◌, ap, arith}
use Rattle.em_mem.specs.Memory.{part}
use Rattle.em_mem.proofs.NeedsLaws.{leaves_past}
use Rattle.em_regs.specs.Ring.{descriptor_at}
use Rattle.em_warnings.proofs.descriptors.held.Goals as goal

pub returns : goal.returns
returns c i behind =
    let s = c.args.machine.now.present in
    let at = descriptor_at c.args.ring.now i in
    let end = c.memory_end.ensures.end in
    let left = c.saturating_sub.ensures in
    let past : length s.memory < at + 16 = omega arith in
    ap (λ (b : Bool). if b then None else Some (part s.memory at 16)) (leaves_past s.base s.memory at 16 past)
