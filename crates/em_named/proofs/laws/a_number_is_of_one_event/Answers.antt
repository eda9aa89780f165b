use Rattle.em_named.proofs.NumberLaws.{falls, fit, found}
use Rattle.em_named.proofs.laws.a_number_is_of_one_event.Goals as goal

pub returns-clause-falls : goal.returns-clause-falls
returns-clause-falls c = λ did whole back i j newer older le. falls whole back did le i j newer older

pub returns-clause-found : goal.returns-clause-found
returns-clause-found c = λ did whole back i name le at. found whole did name le (fit whole back did le i name at)
