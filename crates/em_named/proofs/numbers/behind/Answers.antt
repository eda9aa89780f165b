use Rattle.std.proofs.Common.{◌≡◌, ◌+◌, suc, ap, arith}
use Rattle.std.specs.Prelude.{get_or}
use Rattle.std.proofs.lemmas.Option.{slice_get-get_or}
use Rattle.em_named.specs.Numbers.{end_of}
use Rattle.em_named.specs.declared.did.Did.TheVariants.{Performed}
use Rattle.em_named.proofs.NumberLaws.{end-next}
use Rattle.em_named.proofs.numbers.behind.Goals as goal

pub overflow_add-result-2 : goal.overflow_add-result-2
overflow_add-result-2 c =
    let line = c.args.end.line in
    let did = c.args.did.now in
    let d = get_or did line (Performed 0) in
    let more = end-next line did d (slice_get-get_or did line (Performed 0) c.requires.within) in
    let room = c.requires.room (suc line) in
    omega (arith, more, room, c.requires.end, c.performed_by.ensures)

pub returns-clause-events : goal.returns-clause-events
returns-clause-events c =
    let line = c.args.end.line in
    let did = c.args.did.now in
    let d = get_or did line (Performed 0) in
    let more = end-next line did d (slice_get-get_or did line (Performed 0) c.requires.within) in
    let e : suc line ≡ line + 1 = omega arith in
    let there : end_of (suc line) did ≡ end_of (line + 1) did = ap (λ n. end_of n did) e in
    omega (arith, more, there, c.requires.end, c.performed_by.ensures)
