use Rattle.em_debugger.proofs.SavedLaws.{saved_read}
use Rattle.em_debugger.proofs.laws.saved_lines_are_read.Goals as goal

pub returns : goal.returns
returns c = saved_read
