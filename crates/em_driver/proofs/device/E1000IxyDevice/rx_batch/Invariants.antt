use Rattle.std.proofs.Common.{◌≡◌, ◌-◌, ◌≤◌, ◌<◌}
use Rattle.em_turn.specs.Planned.{lists}
use Rattle.em_driver.proofs.course.RxBatchCourse.{Going}
use Rattle.em_driver.proofs.device.E1000IxyDevice.rx_batch.Given as goal

abbrev pub invariant-loop-i : goal.invariant-loop-i
invariant-loop-i g l =
    let world = g.B.Bus.world in
    record {
      layout : l.self.layout ≡ l.fn.self.layout;
      few : l.count ≤ l.i;
      within : l.index < l.fn.self.layout.rx_count;
      going : Going (world l.fn.self.bus) l.fn.self.layout l.queue l.n (l.i-end - l.i) l.index l.count
          (world l.self.bus) (lists l.fn.buffer.items) (lists l.buffer.items);
    }
