use Rattle.std.proofs.Common.{◌≡◌, ◌+◌, ◌∙◌, Some, length, sym, subst, arith}
use Rattle.em_journal.specs.Records.{AreSaved}
use Rattle.em_journal.proofs.SavedLaws.{grown_saved, grown_undos}
use Rattle.em_journal.proofs.records.Records.grow.Goals as goal

-- memory waited
saved_so : (c : goal.After-move_to)
    → AreSaved c.args.self.now.ring.items c.args.self.now.octets (Some c.in-Some.waits) c.args.budget c.args.self.now.used
saved_so c =
    subst (λ w. AreSaved c.args.self.now.ring.items c.args.self.now.octets w c.args.budget c.args.self.now.used)
    (sym c.take.ensures.value ∙ c.in-Some.is) c.requires.saved

-- for a ring of the whole size
whole : (c : goal.After-move_to) → length c.resize.new.self.items ≡ c.args.budget + 16_396
whole c = omega (arith, c.in-Ok.ensures.len)

pub returns-in-Ok-clause-saved : goal.returns-in-Ok-clause-saved
returns-in-Ok-clause-saved c =
    subst (λ w. AreSaved c.args.self.now.ring.items c.move_to.new.self w c.args.budget c.args.self.now.used)
    (sym c.take.ensures.after) (grown_saved (saved_so c) c.move_to.ensures (whole c))

pub returns-in-Ok-clause-undos : goal.returns-in-Ok-clause-undos
returns-in-Ok-clause-undos c = grown_undos (saved_so c) c.move_to.ensures (whole c)
