use Rattle.em_driver.proofs.bring_up.DeviceOff.{off_turn}
use Rattle.em_driver.proofs.laws.a_device_that_is_off_rests.Goals as goal

pub returns : goal.returns
returns c = off_turn
