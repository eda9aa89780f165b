use Rattle.std.proofs.Common.{◌≡◌, ◌≤◌, ◌∙◌, inl, inr, ℕ, length, Some, None, ap, sym, subst, refl, arith}
use Rattle.std.specs.Prelude.{OnOk, slice_get, slice_set}
use Rattle.std.proofs.lemmas.Option.{slice_get_cases, slice_get_read}
use Rattle.em_debugger.specs.Bookmarks.{Names, added, moved, place_of}
use Rattle.em_debugger.specs.declared.bookmarks.Bookmark.{Bookmark}
use Rattle.em_debugger.proofs.bookmarks.Bookmarks.put.Goals.{in-Ok, in-Err}
use Rattle.em_debugger.proofs.bookmarks.Bookmarks.put.Goals as goal

pub returns-then-at-len-clause-ok : goal.returns-then-at-len-clause-ok
returns-then-at-len-clause-ok c =
    let all = c.args.self.now.all.items in
    let b : Bookmark = c.index_mut.result.now in
    let there : slice_get all c.place_of-at.result ≡ Some b
    = slice_get_read all c.len.result c.place_of-at.result b (c.len.ensures ∙ c.args.self.now.all.ok.0) c.if-at-len.true
    c.index_mut.ensures.value in
    moved b (subst (λ k. slice_get all k ≡ Some b) c.place_of-at.ensures there)
    (ap (λ (k : ℕ). slice_set all k (record b { event = c.args.event })) c.place_of-at.ensures)

pub returns-clause-ok : goal.returns-clause-ok
returns-clause-ok c =
    let all = c.args.self.now.all.items in
    let at : ℕ = place_of c.args.name.now all in
    let named = Names c.args.name.now c.args.event all c.push.new.self.items in
    let b : Bookmark = record { name = c.in_ok-name.name; event = c.args.event } in
    let size : c.len.result ≡ length all = c.len.ensures ∙ c.args.self.now.all.ok.0 in
    let past : length all ≤ at = omega (arith, c.if-at-len.false, size, c.place_of-at.ensures) in
    let none : slice_get all at ≡ None
    = elim (slice_get_cases all at).1 [ inl h ↦ absurd (omega (arith, h.1, past)) | inr h ↦ h.1 ] in
    elim c.match-push.branch [
      | in-Ok w ↦
          subst (λ r. OnOk r named) (sym w.result-is)
          (added b none c.in_ok-name.ensures.items refl w.in-Ok.ensures.items)
      | in-Err w ↦ subst (λ r. OnOk r named) (sym w.result-is) tt
    ]
