use Rattle.em_kept.proofs.HeadLaws.{head_read}
use Rattle.em_kept.proofs.laws.the_head_is_silent.Goals as goal

pub returns : goal.returns
returns c = head_read
