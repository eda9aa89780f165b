use Rattle.em_step_laws.proofs.PieceLaws.{pieces}
use Rattle.em_step_laws.proofs.laws.pieces.Goals as goal

pub returns : goal.returns
returns c = pieces
