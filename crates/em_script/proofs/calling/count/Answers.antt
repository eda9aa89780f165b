use Rattle.em_driver.specs.Calls.{read_stats}
use Rattle.em_driver.specs.Course.{Follows}
use Rattle.std.proofs.Common.{subst}
use Rattle.em_script.proofs.CallingLemmas.{counted, is_no_stats}
use Rattle.em_script.proofs.calling.count.Goals as goal

pub returns-clause-course : goal.returns-clause-course
returns-clause-course g c =
    let w = c.args.driver.now.bus in
    let v = c.read_stats.new.self.bus in
    let zero = c.default-counted.ensures in
    let none = is_no_stats c.default-counted.result zero.0 zero.1.0 zero.1.1.0 zero.1.1.1 in
    counted w v c.read_stats.new.stats
    (subst (λ s. Follows w (read_stats s) 6 c.read_stats.new.stats v) none c.read_stats.ensures.course)
