use Rattle.std.proofs.Common.{◌≡◌, ◌∙◌, ◌+◌, ◌-◌, ◌<◌, ◌++◌, ℕ, suc, ap, arith, drop, get_or, length, map, set, take}
use Rattle.em_tx.proofs.WireLaws.{changed_next}
use Rattle.em_tx.proofs.wire.move_down.Goals as goal

pub loop-end-preserved : goal.loop-end-preserved
loop-end-preserved c =
    let i = c.loop-end.end-index in
    let xs = c.args.ends.now.items in
    let less : i < length xs = omega (arith, ap length c.deref_mut-end-items.ensures.value) in
    let value = c.saturating_sub.ensures ∙ ap (λ ys. get_or ys i 0 - c.args.by) c.loop-end.invariant in
    let f = λ (e : ℕ). e - c.args.by in
    let next : suc i ≡ i + 1 = omega arith in
    (λ j. set (c.loop-end.invariant j) i (value j))
    ∙ changed_next f xs i less ∙ ap (λ n. map f (take n xs) ++ drop n xs) next
