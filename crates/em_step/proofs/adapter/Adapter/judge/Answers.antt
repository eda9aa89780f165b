-- The filters accept no frame that is too short or too long.
use Rattle.std.proofs.Common.{sym}
use Rattle.em_step.proofs.ArrivalLaws.{accepted_sizes}
use Rattle.em_step.proofs.adapter.Adapter.judge.Goals as goal

pub admit-requires-clause-least : goal.admit-requires-clause-least
admit-requires-clause-least c = (accepted_sizes _ _ _ _ (sym c.in-Accept.ensures)).0

pub admit-requires-clause-most : goal.admit-requires-clause-most
admit-requires-clause-most c = (accepted_sizes _ _ _ _ (sym c.in-Accept.ensures)).1
