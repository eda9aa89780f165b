use Rattle.std.proofs.Common.{◌-◌, subst, arith}
use Rattle.em_watch.specs.Difference.{LeavesAsItIs, LeavesOffset}
use Rattle.em_watch.specs.declared.watch.Watch.TheVariants.{Register}
use Rattle.em_watch.proofs.AloneLaws.{seen_alone}
use Rattle.em_watch.proofs.DifferenceLaws.{leaves_offset, none_is}
use Rattle.em_watch.proofs.registers.changed_at.Goals as goal

pub returns-then-is_left-clause-none : goal.returns-then-is_left-clause-none
returns-then-is_left-clause-none c =
    let v = c.args.machine.now in
    let back = c.args.back in
    let reg = c.in_ok-reg.reg in
    let stays = seen_alone v (back - 1) c.args.past.now reg c.requires.record (c.is_left.ensures c.if-is_left.true) in
    leaves_offset v back c.args.offset reg c.in_ok-reg.ensures.table
    (subst (LeavesAsItIs (Register reg) v) (omega (arith, c.requires.some)) stays)

pub returns-in_err-difference-clause-none : goal.returns-in_err-difference-clause-none
returns-in_err-difference-clause-none c =
    let v = c.args.machine.now in
    let back = c.args.back in
    none_is c.from_residual-in_err-difference.result (LeavesOffset v back c.args.offset)
    (leaves_offset v back c.args.offset c.in_ok-reg.reg c.in_ok-reg.ensures.table c.in_err-difference.ensures.none)
