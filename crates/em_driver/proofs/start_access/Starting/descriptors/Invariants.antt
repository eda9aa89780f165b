use Rattle.std.proofs.Common.{◌≡◌, ◌+◌, ◌-◌, ◌*◌}
use Rattle.em_driver.specs.Course.{Comes}
use Rattle.em_driver.specs.Start.{Start, each_from, memory, fresh_descriptor, descriptors}
use Rattle.em_driver.proofs.start_access.Starting.descriptors.Given as goal

abbrev pub invariant-loop-i : goal.invariant-loop-i
invariant-loop-i g l =
    let world = g.B.Bus.world in
    record {
      counted : l.self.events ≡ l.fn.self.events + l.i;
      layout : l.self.driver.layout ≡ l.fn.self.driver.layout;
      comes : (more : Start) → Comes (world l.fn.self.driver.bus) (descriptors l.ring l.count l.buffers more) l.i
          (world l.self.driver.bus)
          (each_from l.i (l.count - l.i) (λ i. memory (l.ring + 16 * i) (fresh_descriptor (l.buffers + 2048 * i)))
          more);
    }
