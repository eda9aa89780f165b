use Rattle.std.proofs.Common.{◌≡◌, ◌+◌, ◌∙◌, ap, sym, get_or, arith}
use Rattle.em_regs.specs.declared.table.Row.{Row}
use Rattle.em_latch.specs.Storage.{offsets}
use Rattle.em_latch.proofs.PlaceLaws.{word_place, place_is, place_within, counter_place}
use Rattle.em_latch.proofs.latches.place_of.Goals as goal

pub returns-in-Icr-clause-place : goal.returns-in-Icr-clause-place
returns-in-Icr-clause-place c = ap (λ r. get_or offsets (word_place r) 0) (sym c.in-Icr.is)
    ∙ place_is c.args.reg c.requires

pub returns-in-Ims-clause-place : goal.returns-in-Ims-clause-place
returns-in-Ims-clause-place c = ap (λ r. get_or offsets (word_place r) 0) (sym c.in-Ims.is)
    ∙ place_is c.args.reg c.requires

place : (c : goal.After-row_known-1) → word_place c.args.reg ≡ 2 + c.row.result.now.place
place c =
    counter_place c.args.reg c.in_default.not-Icr c.in_default.not-Ims
    ∙ sym (ap (λ (r : Row). 2 + r.place) c.row.ensures)

pub returns-in_default-clause-within : goal.returns-in_default-clause-within
returns-in_default-clause-within c = omega (arith, place c, place_within c.args.reg c.requires)

pub returns-in_default-clause-place : goal.returns-in_default-clause-place
returns-in_default-clause-place c = ap (λ i. get_or offsets i 0) (sym (place c)) ∙ place_is c.args.reg c.requires
