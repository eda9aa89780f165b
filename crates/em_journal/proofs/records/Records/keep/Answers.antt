use Rattle.std.proofs.Common.{◌∙◌, ap, arith}
use Rattle.em_journal.specs.Records.{places_in}
use Rattle.em_journal.proofs.BudgetLaws.{has_place}
use Rattle.em_journal.proofs.records.Records.keep.Goals as goal

pub put_newest-requires : goal.put_newest-requires
put_newest-requires c =
    let places = ap (λ b. places_in b.capacity c.args.self.now.larger) c.drop_oldest-kept.ensures.items ∙ c.requires.places in
    has_place c.drop_oldest-kept.new.records.items c.requires.least (omega arith) (omega arith) places
