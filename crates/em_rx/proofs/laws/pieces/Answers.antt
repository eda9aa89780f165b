use Rattle.em_rx.proofs.PieceLaws.{pieces}
use Rattle.em_rx.proofs.laws.pieces.Goals as goal

pub returns : goal.returns
returns c = pieces
