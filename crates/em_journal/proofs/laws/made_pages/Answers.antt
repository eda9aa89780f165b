use Rattle.em_journal.proofs.RecordsLaws.{fit_after, back_after}
use Rattle.em_journal.proofs.laws.made_pages.Goals as goal

pub returns : goal.returns
returns c = λ a b rs more h. (fit_after a b rs more h, back_after a b rs more)
