use Rattle.em_driver.proofs.course.RunOfCalls.{play_runs, follows_run}
use Rattle.em_driver.proofs.laws.a_call_is_a_run.Goals as goal

pub returns-clause-played : goal.returns-clause-played
returns-clause-played g c = λ course w. play_runs course w

pub returns-clause-followed : goal.returns-clause-followed
returns-clause-followed g c = λ course w v events answer follows.
    let runs = follows_run course w v events answer follows in
    (runs.calls, runs.is)
