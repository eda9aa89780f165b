use Rattle.em_kept.proofs.LineLaws.{refused_silent}
use Rattle.em_kept.proofs.laws.other_refusals_are_silent.Goals as goal

pub returns : goal.returns
returns c = refused_silent
