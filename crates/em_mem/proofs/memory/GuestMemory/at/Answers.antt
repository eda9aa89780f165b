use Rattle.std.proofs.Common.{◌∙◌, ◌+◌, ◌*◌, ◌/◌, ◌++◌, take, ap, refl, length, arith}
use Rattle.em_mem.specs.declared.TheConstants.{PAGE_OCTETS}
use Rattle.em_mem.specs.Memory.{none_made, zeros}
use Rattle.em_mem.proofs.MemoryLaws.{pages_sum}
use Rattle.em_mem.proofs.RowLaws.{length-none_made, length-zeros, none_placed, zeros_placed}
use Rattle.em_mem.proofs.memory.GuestMemory.at.Goals as goal

pub invariant_of-result : goal.invariant_of-result
invariant_of-result c =
    let new = c.in_ok-store.ensures in
    let range = c.if-not-is_memory_range.ensures.0 refl in
    let octets = ap length new.octets ∙ length-zeros (PAGE_OCTETS * new.count) in
    let made = ap length new.made ∙ length-none_made new.count in
    record {
      range = range;
      room = omega (arith, new.enough, octets, range.whole_size);
      pages = omega (arith, octets, made);
    }

pub returns-clause-ok : goal.returns-clause-ok
returns-clause-ok c =
    let new = c.in_ok-store.ensures in
    let base = c.args.base in
    let size = c.args.size in
    let range = c.if-not-is_memory_range.ensures.0 refl in
    let octets = ap (λ m. zeros base ++ take size m) new.octets
    ∙ zeros_placed base size (PAGE_OCTETS * new.count) (omega (arith, new.enough, range.whole_size)) in
    let made = ap (λ m. none_made (base / PAGE_OCTETS) ++ take (size / PAGE_OCTETS) m) new.made
    ∙ none_placed (base / PAGE_OCTETS) (size / PAGE_OCTETS) new.count (omega (arith, new.enough))
    ∙ ap none_made (pages_sum base size range.whole_base range.whole_size) in
    λ i. record { base = base; octets = octets i; made = made i }
