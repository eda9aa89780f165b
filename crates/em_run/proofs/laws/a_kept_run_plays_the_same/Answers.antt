use Rattle.em_run.proofs.FileLaws.{file_plays}
use Rattle.em_run.proofs.laws.a_kept_run_plays_the_same.Goals as goal

pub returns : goal.returns
returns c = file_plays
