use Rattle.std.proofs.Common.{◌≡◌, ◌+◌, ◌-◌}
use Rattle.em_regs.specs.declared.reg.Reg.TheVariants.{Mta}
use Rattle.em_driver.specs.Course.{write, Comes}
use Rattle.em_driver.specs.Start.{Start, each_from, multicast_table}
use Rattle.em_driver.proofs.start_access.Starting.multicast_table.Given as goal

abbrev pub invariant-loop-word : goal.invariant-loop-word
invariant-loop-word g l =
    let world = g.B.Bus.world in
    record {
      counted : l.self.events ≡ l.fn.self.events + l.word;
      layout : l.self.driver.layout ≡ l.fn.self.driver.layout;
      comes : (more : Start) → Comes (world l.fn.self.driver.bus) (multicast_table more) l.word
          (world l.self.driver.bus)
          (each_from l.word (128 - l.word) (λ i. write (Mta i) 0) more);
    }
