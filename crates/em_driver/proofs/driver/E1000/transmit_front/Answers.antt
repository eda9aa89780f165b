use Rattle.std.proofs.Common.{refl, arith}
use Rattle.em_driver.proofs.course.TxBatchCourse.{fronted, none_left, front_sent, front_halts}
use Rattle.em_driver.proofs.driver.E1000.transmit_front.Goals as goal

pub returns-in_default-clause-ok : goal.returns-in_default-clause-ok
returns-in_default-clause-ok g c =
    none_left c.args.self.now.layout _ _ _ _ (omega (arith, c.in_default.ensures.item.3))

pub returns-in-Err-clause-err : goal.returns-in-Err-clause-err
returns-in-Err-clause-err g c =
    front_halts c.args.self.now.layout _ _ _ _ _
    (fronted _ _ _ _ c.in-Some.ensures.lookup c.in-Some.ensures.item.3.0 refl c.as_slice.ensures.value)
    c.in-Err.ensures.err

pub returns-clause-ok : goal.returns-clause-ok
returns-clause-ok g c =
    front_sent c.args.self.now.layout _ _ _ _
    (fronted _ _ _ _ c.in-Some.ensures.lookup c.in-Some.ensures.item.3.0 c.pop_front.ensures.rest
    c.as_slice.ensures.value) c.in_default-transmit_packet.ensures.ok
