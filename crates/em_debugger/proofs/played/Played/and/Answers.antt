use Rattle.std.proofs.Common.{refl, sym, ◌∙◌}
use Rattle.em_debugger.proofs.PlayedLaws.{counts_first, counts_more}
use Rattle.em_debugger.proofs.played.Played.and.Goals as goal

pub returns-in-None : goal.returns-in-None
returns-in-None c =
    λ lines h. counts_first lines c.args.performed c.args.self _ (sym c.is_wrong.ensures ∙ c.if-is_wrong.true) h
    c.in-None.is c.saturating_add-lines.ensures refl refl

pub returns-in-Some : goal.returns-in-Some
returns-in-Some c =
    λ lines h. counts_more lines c.args.performed _ c.args.self _ (sym c.is_wrong.ensures ∙ c.if-is_wrong.true) h
    c.in-Some.is c.saturating_add-lines.ensures refl c.saturating_add.ensures
