use Rattle.em_reasons.proofs.DropLemmas.{drops_again, drops_with_reason, same_why_after, stores_without_reason}
use Rattle.em_reasons.proofs.laws.drops_are_explained.Goals as goal

pub returns : goal.returns
returns c = record {
  dropped = drops_with_reason;
  stored = stores_without_reason;
  again = drops_again;
  same = same_why_after;
}
