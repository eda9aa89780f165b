use Rattle.std.proofs.Common.{◌+◌, ◌*◌, arith, subst, sym}
use Rattle.em_watch.specs.Difference.{LeavesRegisters}
use Rattle.em_watch.proofs.AloneLaws.{Behind, behind, behind_less, behind_more, below_more, known_below}
use Rattle.em_watch.proofs.DifferenceLaws.{leaves_bare, leaves_both, leaves_within, leaves_word}
use Rattle.em_watch.proofs.registers.next_changed.Goals as goal

pub returns-in-Some-changed_at-clause-first : goal.returns-in-Some-changed_at-clause-first
returns-in-Some-changed_at-clause-first c =
    let v = c.args.machine.now in
    let back = c.args.back in
    let found = c.in-Some-next_page_with_registers in
    subst (LeavesRegisters v back c.args.from) (sym c.in-Some-changed_at.ensures.there)
    (leaves_both v back c.args.from c.loop-next.next found.offset c.loop-next.invariant.left
    (leaves_bare v back c.loop-next.next found.offset found.ensures.first))

pub loop-next-preserved : goal.loop-next-preserved
loop-next-preserved c =
    let v = c.args.machine.now in
    let back = c.args.back in
    let loop = c.loop-next in
    let found = c.in-Some-next_page_with_registers in
    let there = found.ensures.found in
    let next = found.offset + 4 in
    let before = leaves_both v back c.args.from loop.next found.offset loop.invariant.left
    (leaves_bare v back loop.next found.offset found.ensures.first) in
    record {
      whole = omega (arith, there.2);
      from = omega (arith, there.0, loop.invariant.from);
      left = leaves_word v back c.args.from found.offset there.2 before c.in_default-changed_at.ensures.none;
      behind = subst (Behind v back next) (sym c.min-end.ensures)
          (behind_less v back next loop.end c.reach.result
          (behind_more v back loop.next loop.end next (omega (arith, there.0)) loop.invariant.behind)
          (behind v back c.in-Some.past next c.reach.result c.stored_at.result c.requires.some c.in-Some.ensures.found
          c.reach.ensures (known_below c.stored_at.result found.offset next (omega arith) c.stored_at.ensures)));
    }

pub returns-clause-none : goal.returns-clause-none
returns-clause-none c =
    let v = c.args.machine.now in
    let back = c.args.back in
    let loop = c.loop-next in
    leaves_both v back c.args.from loop.next 0x06000 loop.invariant.left
    (λ o l m. loop.invariant.behind o l (omega (arith, l, c.loop-next-test.false)))

pub returns-in_default-next_page_with_registers-clause-none : goal.returns-in_default-next_page_with_registers-clause-none
returns-in_default-next_page_with_registers-clause-none c =
    let v = c.args.machine.now in
    let back = c.args.back in
    leaves_both v back c.args.from c.loop-next.next 0x06000 c.loop-next.invariant.left
    (leaves_bare v back c.loop-next.next 0x06000 (λ o l m. c.in_default-next_page_with_registers.ensures.last o l))

pub loop-next-init : goal.loop-next-init
loop-next-init c =
    let v = c.args.machine.now in
    let back = c.args.back in
    let next = 4 * c.div_ceil-next.result in
    let ceil = c.div_ceil-next.ensures in
    record {
      whole = omega arith;
      from = omega (arith, ceil);
      left = leaves_within v back c.args.from next (omega arith) (omega (arith, ceil));
      behind = behind v back c.in-Some.past next c.reach-end.result c.stored_below.result c.requires.some
          c.in-Some.ensures.found c.reach-end.ensures
          (below_more c.stored_below.result c.args.from next (omega (arith, ceil)) c.stored_below.ensures);
    }
