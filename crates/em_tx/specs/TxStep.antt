-- The two parts of what a step of the transmit engine gives.
use Rattle.std.specs.Prelude.{Some, None}
use Rattle.em_tx.specs.declared.answer.TxAnswer.{TxAnswer}
use Rattle.em_tx.specs.declared.answer.TxAnswer.TheVariants as answer
use Rattle.em_tx.specs.declared.answer.TxStep.{TxStep}
use Rattle.em_tx.specs.declared.answer.TxStep.TheVariants.{Idle, Handled}
use Rattle.em_tx.specs.declared.undo.TxUndo.{TxUndo}
use Rattle.em_tx.specs.declared.undo.TxUndo.TheVariants.{Nothing, Step}

-- what it answers: a frame was sent, or octets were gathered
abbrev pub answer_of : TxStep → TxAnswer
answer_of Idle = answer.Idle
answer_of (Handled index next causes (Some sent) change) = answer.Sent index next causes sent.octets sent.kind
answer_of (Handled index next causes None change) = answer.Fetched index next causes

-- what takes it back
abbrev pub undo_of : TxStep → TxUndo
undo_of Idle = Nothing
undo_of (Handled index next causes frame change) = Step change
