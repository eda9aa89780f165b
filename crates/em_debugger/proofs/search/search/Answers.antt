use Rattle.std.proofs.Common.{◌∙◌, sym, subst, length, arith}
use Rattle.std.specs.Prelude.{max}
use Rattle.em_debugger.specs.Deeper.{IsSeen, IsUnseen}
use Rattle.em_debugger.specs.Search.{found, never, deeper, unreached}
use Rattle.em_debugger.proofs.NumberLaws.{event_at-most}
use Rattle.em_debugger.proofs.search.search.Goals as goal

pub deeper-requires-clause-performed : goal.deeper-requires-clause-performed
deeper-requires-clause-performed c =
    let most = event_at-most c.args.tape.now (max (length c.args.tape.now.session.machine.past) c.args.back) in
    omega (arith, c.next_unseen-next.ensures, most)

pub returns-in-Some : goal.returns-in-Some
returns-in-Some c = found c.args.tape.now c.args.back c.in-Some.found c.in-Some.ensures.some

pub returns-then-next-eq0 : goal.returns-then-next-eq0
returns-then-next-eq0 c =
    never c.args.tape.now c.args.back c.in_default.ensures.none (sym c.next_unseen-next.ensures ∙ c.if-next-eq0.true)

pub returns-in-Ok : goal.returns-in-Ok
returns-in-Ok c =
    deeper c.args.tape.now c.in-Ok.deep c.args.back c.in_deeper.result c.in_default.ensures.none
    (omega (arith, c.next_unseen-next.ensures)) c.in-Ok.ensures.again
    (subst (λ n. IsSeen n c.in-Ok.deep) c.next_unseen-next.ensures c.in-Ok.ensures.seen)
    (c.in_deeper.ensures c.args.settings c.args.tape.now c.in-Ok.ensures.again)

pub returns-in-Err : goal.returns-in-Err
returns-in-Err c =
    unreached c.args.tape.now c.args.back c.in-Err.why c.in_default.ensures.none
    (omega (arith, c.next_unseen-next.ensures))
    (subst (λ n. IsUnseen c.args.settings c.args.tape.now n c.in-Err.why) c.next_unseen-next.ensures
    c.in-Err.ensures.unseen)
