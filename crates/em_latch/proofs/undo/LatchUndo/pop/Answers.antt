use Rattle.std.proofs.Common.{◌∙◌, sym, arith}
use Rattle.em_latch.specs.declared.undo.TheConstants.{MOST_OCTETS}
use Rattle.em_latch.proofs.RecordLaws.{growths_of-end, popped}
use Rattle.em_latch.proofs.undo.LatchUndo.pop.Goals as goal

pub returns-then-octet-eq0-clause-none : goal.returns-then-octet-eq0-clause-none
returns-then-octet-eq0-clause-none c = λ none.
    sym c.self.view_is ∙ growths_of-end MOST_OCTETS c.self.inside.growths (omega arith)

pub returns-clause-some : goal.returns-clause-some
returns-clause-some c =
    sym c.self.view_is
    ∙ rw (c.split-by.ensures.newest, c.split-by.ensures.others)
    (popped c.self.inside.growths (omega arith) (omega arith))
