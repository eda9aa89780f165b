use Rattle.em_driver.proofs.course.MappedAnswers.{answering_follows, answering_tells}
use Rattle.em_driver.proofs.laws.answers_are_put_otherwise.Goals as goal

pub returns-clause-follows : goal.returns-clause-follows
returns-clause-follows g c = λ f course w v events answer follows.
    answering_follows f course w v events answer follows

pub returns-clause-tells : goal.returns-clause-tells
returns-clause-tells g c = λ f says course tells. answering_tells f says course tells
