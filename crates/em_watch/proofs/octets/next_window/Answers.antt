use Rattle.std.proofs.Common.{arith}
use Rattle.em_watch.specs.MemoryChange.{LeavesRest}
use Rattle.em_watch.proofs.DifferenceLaws.{none_is}
use Rattle.em_watch.proofs.OctetLaws.{leaves_rest, past_the_end}
use Rattle.em_watch.proofs.octets.next_window.Goals as goal

pub returns-in_err-at-clause-none : goal.returns-in_err-at-clause-none
returns-in_err-at-clause-none c =
    none_is c.from_residual.result (LeavesRest c.args.machine.now c.args.back c.args.from)
    c.in_err-at.ensures.none

pub returns-then-at-end-clause-held : goal.returns-then-at-end-clause-held
returns-then-at-end-clause-held c = λ k s at.
    let has = c.memory_end-end.ensures.states k s at in
    record {
      from = omega (arith, has.begins, c.within.ensures.addr, c.in_ok-at.ensures.inside);
      to = omega (arith, has.ends, c.within.ensures.addr, c.within.ensures.held, c.if-at-end.true);
    }

pub returns-else-at-end-clause-none : goal.returns-else-at-end-clause-none
returns-else-at-end-clause-none c =
    let v = c.args.machine.now in
    let back = c.args.back in
    leaves_rest v back c.args.from c.in_ok-at.at c.in_ok-at.ensures.left
    (λ a l. past_the_end v back v.present.base c.memory_end-end.result a c.memory_end-end.ensures.states
    (omega (arith, l, c.if-at-end.false)) c.requires.there)
