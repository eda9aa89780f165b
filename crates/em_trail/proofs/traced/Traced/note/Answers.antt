use Rattle.std.proofs.Common.{◌≡◌, ◌<◌, ◌≤◌, length, take, sym, ap, ◌∙◌, subst, arith}
use Rattle.std.specs.Prelude.{IfSome}
use Rattle.std.proofs.lemmas.Option.{slice_get_past}
use Rattle.em_journal.specs.View.{states}
use Rattle.em_trail.specs.Trail.{Trail, TellsAt}
use Rattle.em_trail.proofs.TrailLaws.{slice_get-take, some_tells}
use Rattle.em_trail.proofs.traced.Traced.note.Goals as goal

pub returns-then-k-len-clause-tells : goal.returns-then-k-len-clause-tells
returns-then-k-len-clause-tells c =
    let v = c.self.inside.machine in
    let k = c.args.k in
    let all = c.self.inside.notes.items in
    let is : c.len.result ≡ length v.past
    = c.len.ensures.past ∙ sym (ap (λ (t : Trail). length t.view.past) c.self.view_is) in
    let below : k < c.len.result = omega (arith, c.if-k-len.true) in
    let found = c.copied.ensures ∙ c.get.ensures
    ∙ sym (slice_get-take (length v.past) all k (subst (λ n. k < n) is below)) in
    let told = some_tells c.copied.result k v.present v.past (take (length v.past) all) c.self.invariant.trail found in
    subst (λ (t : Trail). IfSome c.copied.result (λ note. TellsAt (states t.view) k note)) c.self.view_is told

pub returns-else-k-len-clause-value : goal.returns-else-k-len-clause-value
returns-else-k-len-clause-value c =
    let past : c.len.result ≤ c.args.k = omega (arith, c.if-k-len.false) in
    sym (slice_get_past c.args.self.now.notes c.args.k (subst (λ n. n ≤ c.args.k) c.len.ensures.notes past))
