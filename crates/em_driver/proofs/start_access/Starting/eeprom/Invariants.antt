use Rattle.std.proofs.Common.{◌≡◌, ◌+◌, ◌-◌, ◌*◌, List, ℕ, length, take}
use Rattle.em_driver.specs.Course.{Comes}
use Rattle.em_driver.specs.Start.{Start, words_from, summed, eeprom}
use Rattle.em_driver.proofs.start_access.Starting.eeprom.Given as goal

abbrev pub invariant-loop-address : goal.invariant-loop-address
invariant-loop-address g l =
    let world = g.B.Bus.world in
    record {
      whole : length l.words ≡ 64;
      counted : l.self.events ≡ l.fn.self.events + 2 * l.address;
      layout : l.self.driver.layout ≡ l.fn.self.driver.layout;
      comes : (next : List ℕ → Start) → Comes (world l.fn.self.driver.bus) (eeprom next) (2 * l.address)
          (world l.self.driver.bus)
          (words_from l.address (64 - l.address) (take l.address l.words) (summed next));
    }
