use Rattle.std.proofs.Common.{inl, inr}
use Rattle.em_driver.proofs.course.PlayedCourse.{followed_is_played, neither}
use Rattle.em_driver.proofs.laws.a_fed_call_is_played.Goals as goal

pub returns-clause-said : goal.returns-clause-said
returns-clause-said g c = λ says course w v events answer tells follows alone fed.
    let none = neither (says answer) v.starved fed in
    followed_is_played says says course w v events answer tells follows alone none.0 (inl none.0) none.1

pub returns-clause-ample : goal.returns-clause-ample
returns-clause-ample g c = λ bus own course w v events answer tells follows alone fed ample.
    let none = neither (own answer) v.starved fed in
    followed_is_played bus own course w v events answer tells follows alone none.0 (inr ample) none.1
