use Rattle.em_reasons.proofs.RefusalLemmas.{refused_with_reason}
use Rattle.em_reasons.proofs.laws.refusals_are_explained.Goals as goal

pub returns : goal.returns
returns c = refused_with_reason
