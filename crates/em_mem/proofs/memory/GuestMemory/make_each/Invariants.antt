use Rattle.std.proofs.Common.{◌≡◌, ◌≤◌, ◌<◌, ◌⊎◌, ℕ, length}
use Rattle.em_mem.specs.Memory.{IsPageMade}
use Rattle.em_mem.proofs.memory.GuestMemory.make_each.Given as goal

abbrev pub invariant-loop-page : goal.invariant-loop-page
invariant-loop-page l = record {
  base : l.self.base ≡ l.initial.self.base;
  octets : l.self.octets ≡ l.initial.self.octets;
  len : length l.self.made ≡ length l.initial.self.made;
  made : (p : ℕ) → l.first ≤ p → p < l.page → IsPageMade l.self p;
  more : (p : ℕ) → IsPageMade l.initial.self p → IsPageMade l.self p;
  only : (p : ℕ) → IsPageMade l.self p → IsPageMade l.initial.self p ⊎ ((l.first ≤ p) × (p < l.page));
}
