use Rattle.em_recording.proofs.RunLaws.{rebuilt_backward, rebuilt_forward}
use Rattle.std.proofs.Common.{refl}
use Rattle.em_recording.proofs.laws.records_rebuild.Goals as goal

pub returns : goal.returns
returns c = record {
  now = λ budget s calls v records told. rebuilt_forward budget s calls v records told 0 v.present refl;
  forward = rebuilt_forward;
  backward = rebuilt_backward;
}
