use Rattle.std.proofs.Common.{[], ◌∙◌, refl, sym, subst, length, arith}
use Rattle.std.specs.Prelude.{max}
use Rattle.em_debugger.specs.Accesses.{full, over}
use Rattle.em_debugger.specs.Deeper.{IsSeen}
use Rattle.em_debugger.proofs.AccessesLaws.{found_deeper, found_unseen}
use Rattle.em_debugger.proofs.NumberLaws.{event_at-most}
use Rattle.em_debugger.proofs.accesses.newest_of.Goals as goal

pub deeper-requires-clause-performed : goal.deeper-requires-clause-performed
deeper-requires-clause-performed c =
    let most = event_at-most c.args.tape.now (max (length c.args.tape.now.session.machine.past) 0) in
    omega (arith, c.next_unseen-next.ensures, most)

pub returns-in-Some : goal.returns-in-Some
returns-in-Some c = full c.args.tape.now 1 c.in-Some.noted.back _ (c.in-Some.ensures.some, refl) refl

pub returns-then-next-eq0 : goal.returns-then-next-eq0
returns-then-next-eq0 c =
    over c.args.tape.now 1 0 [] refl (omega arith) c.in_default.ensures.none
    (sym c.next_unseen-next.ensures ∙ c.if-next-eq0.true)

pub returns-in-Ok : goal.returns-in-Ok
returns-in-Ok c =
    found_deeper c.args.settings c.args.tape.now c.args.tape.now c.in-Ok.deep c.args.sort c.newest_deeper.result
    c.in_default.ensures.none (omega (arith, c.next_unseen-next.ensures)) c.in-Ok.ensures.again
    (subst (λ n. IsSeen n c.in-Ok.deep) c.next_unseen-next.ensures c.in-Ok.ensures.seen)
    (c.newest_deeper.ensures c.args.settings c.args.tape.now c.in-Ok.ensures.again)

pub returns-in-Err : goal.returns-in-Err
returns-in-Err c =
    found_unseen c.args.settings c.args.tape.now c.args.tape.now c.args.sort c.next_unseen-next.result c.in-Err.why
    c.in_default.ensures.none c.next_unseen-next.ensures (omega arith) c.in-Err.ensures.unseen
