use Rattle.std.proofs.Common.{◌-◌, arith, refl}
use Rattle.std.specs.Prelude.{get_or}
use Rattle.em_named.specs.declared.did.Did.TheVariants.{Performed}
use Rattle.em_named.proofs.NumberLaws.{end-before}
use Rattle.em_named.proofs.numbers.before.Goals as goal

pub overflow_sub-result : goal.overflow_sub-result
overflow_sub-result c =
    let line = c.args.end.line in
    let did = c.args.did.now in
    let more = end-before line did (get_or did (line - 1) (Performed 0)) (Performed 0) c.requires.some c.requires.within refl in
    omega (arith, more, c.requires.end, c.performed_by.ensures)

pub returns-clause-events : goal.returns-clause-events
returns-clause-events c =
    let line = c.args.end.line in
    let did = c.args.did.now in
    let more = end-before line did (get_or did (line - 1) (Performed 0)) (Performed 0) c.requires.some c.requires.within refl in
    omega (arith, more, c.requires.end, c.performed_by.ensures)
