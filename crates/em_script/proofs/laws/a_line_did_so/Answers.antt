use Rattle.em_script.proofs.DidLemmas.{line_did, lines_did}
use Rattle.em_script.proofs.laws.a_line_did_so.Goals as goal

pub returns-clause-line : goal.returns-clause-line
returns-clause-line c = line_did

pub returns-clause-lines : goal.returns-clause-lines
returns-clause-lines c = lines_did
