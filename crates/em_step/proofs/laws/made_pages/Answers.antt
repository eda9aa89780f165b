use Rattle.em_step.proofs.MadePages.{shows_after, fits_after, undo_after}
use Rattle.em_step.proofs.laws.made_pages.Goals as goal

pub returns-clause-shown : goal.returns-clause-shown
returns-clause-shown c = shows_after

pub returns-clause-fits : goal.returns-clause-fits
returns-clause-fits c = fits_after

pub returns-clause-undone : goal.returns-clause-undone
returns-clause-undone c = undo_after
