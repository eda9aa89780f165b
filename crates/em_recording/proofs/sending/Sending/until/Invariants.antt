use Rattle.em_recording.specs.Sending.{IsSending}
use Rattle.em_recording.proofs.sending.Sending.until.Given as goal

abbrev pub invariant-loop-k : goal.invariant-loop-k
invariant-loop-k l = IsSending l.machine l.k l.sending
