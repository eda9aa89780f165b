use Rattle.em_rx.proofs.MadePages.{fits_after, undo_after}
use Rattle.em_rx.proofs.laws.made_pages.Goals as goal

pub returns-clause-fits : goal.returns-clause-fits
returns-clause-fits c = fits_after

pub returns-clause-undone : goal.returns-clause-undone
returns-clause-undone c = undo_after
