use Rattle.std.proofs.Common.{◌∙◌, ◌≤◌, ◌++◌, ℕ, List, take, drop, rules, ap, subst, sym}
use Rattle.em_reduce.specs.Reduce.{Reduces}
use Rattle.em_reduce.proofs.PartLaws.{Reduces-none, Reduces-without}
use Rattle.em_reduce.proofs.fewer.without_pieces.Goals.{then-branch, else-branch}
use Rattle.em_reduce.proofs.fewer.without_pieces.Goals as goal

pub loop-pieces-init : goal.loop-pieces-init
loop-pieces-init g c = Reduces-none c.args.items.items c.requires

pub loop-pieces-preserved : goal.loop-pieces-preserved
loop-pieces-preserved g c =
    let has : List ℕ → Type 0 = g.T.Trial.has c.args.trial.now in
    let all : List ℕ = c.args.items.items in
    let from = c.loop-pieces.at in
    let to = c.min-end.result in
    elim c.if-branch.branch [
      | then-branch w ↦
          let fewer : List ℕ = c.in_ok-fewer.fewer.items in
          let still : has fewer = search rules in
          let order : from ≤ to = search rules in
          let is = c.in_ok-fewer.ensures.ok ∙ ap (λ (l : List ℕ). take from l ++ drop to l) c.as_slice.ensures.value in
          subst (λ v. Reduces has all v.items) (sym w.left-is)
          (Reduces-without from to fewer c.loop-pieces.invariant order is still)
      | else-branch w ↦ subst (λ v. Reduces has all v.items) (sym w.left-is) c.loop-pieces.invariant
    ]
