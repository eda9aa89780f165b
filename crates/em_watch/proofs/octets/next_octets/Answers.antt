use Rattle.std.proofs.Common.{arith, refl}
use Rattle.em_watch.proofs.OctetLaws.{leaves_both}
use Rattle.em_watch.proofs.octets.next_octets.Goals as goal

pub returns-in-Some-changed_in-clause-first : goal.returns-in-Some-changed_in-clause-first
returns-in-Some-changed_in-clause-first c =
    let v = c.args.machine.now in
    let back = c.args.back in
    leaves_both v back c.args.from c.in-Some.window.addr c.in-Some-changed_in.change.range.addr
    (leaves_both v back c.args.from c.loop-window.next c.in-Some.window.addr c.loop-window.invariant.left
    c.in-Some.ensures.left)
    c.in-Some-changed_in.ensures.first

pub loop-window-smaller : goal.loop-window-smaller
loop-window-smaller c =
    let v = c.args.machine.now in
    let held = c.in-Some.ensures.held 0 v.present refl in
    omega (arith, held, c.in-Some.ensures.from)

pub returns-in-Some-changed_in-clause-held : goal.returns-in-Some-changed_in-clause-held
returns-in-Some-changed_in-clause-held c = λ k s at.
    let held = c.in-Some.ensures.held k s at in
    record {
      from = omega (arith, held.from, c.in-Some-changed_in.ensures.from);
      to = omega (arith, held.to, c.in-Some-changed_in.ensures.to);
    }
