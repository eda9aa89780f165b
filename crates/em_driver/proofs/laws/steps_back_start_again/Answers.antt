use Rattle.em_driver.proofs.order.StepsBack.{back_to_start}
use Rattle.em_driver.proofs.laws.steps_back_start_again.Goals as goal

pub returns : goal.returns
returns g c = λ l m v legs are begins inside. back_to_start _ l m v legs are begins inside
