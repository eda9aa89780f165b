use Rattle.em_driver.proofs.course.TellsOfMemory.{start_tells, rx_batch_tells, tx_batch_tells, get_mac_addr_tells}
use Rattle.em_driver.proofs.course.TellsOfMemory.{set_mac_addr_tells, read_stats_tells, reset_stats_tells}
use Rattle.em_driver.proofs.course.TellsOfMemory.{get_link_speed_tells}
use Rattle.em_driver.proofs.laws.calls_tell_of_memory.Goals as goal

pub returns : goal.returns
returns c = record {
  start = start_tells;
  rx_batch = rx_batch_tells;
  tx_batch = tx_batch_tells;
  get_mac_addr = get_mac_addr_tells;
  set_mac_addr = set_mac_addr_tells;
  read_stats = read_stats_tells;
  reset_stats = reset_stats_tells;
  get_link_speed = get_link_speed_tells;
}
