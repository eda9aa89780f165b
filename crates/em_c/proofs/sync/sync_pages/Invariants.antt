use Rattle.std.proofs.Common.{◌≡◌, ◌≤◌, ◌+◌, ◌-◌, length, take, drop}
use Rattle.em_c.specs.Sync.{PerformsAll, memory_of, writes_of, writes_from, pages}
use Rattle.em_c.specs.Tagged.{present_of}
use Rattle.em_c.proofs.sync.sync_pages.Given as goal

-- as many of the writes as are counted were made, and the others are those of the pages from `at` on
abbrev pub invariant-loop-at : goal.invariant-loop-at
invariant-loop-at l =
    let base = (present_of l.initial.machine).base in
    record {
      within : l.at ≤ length l.ram;
      few : l.count ≤ l.at;
      begins : (present_of l.machine).base ≡ base;
      size : base + length l.ram ≡ length (memory_of l.machine);
      so_far : take l.at (drop base (memory_of l.machine)) ≡ take l.at l.ram;
      counted : l.count ≤ length (writes_of l.initial.machine l.ram);
      made : PerformsAll (take l.count (writes_of l.initial.machine l.ram)) l.initial.machine l.machine;
      left : drop l.count (writes_of l.initial.machine l.ram)
          ≡ writes_from (pages (length l.ram - l.at)) (base + l.at) (drop l.at (drop base (memory_of l.machine)))
          (drop l.at l.ram);
    }

abbrev pub decreases-loop-at : goal.decreases-loop-at
decreases-loop-at l = length l.ram - l.at
