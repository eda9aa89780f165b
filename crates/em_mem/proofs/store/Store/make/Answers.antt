use Rattle.std.proofs.Common.{◌≡◌, ◌∙◌, ◌-◌, ◌<◌, ℕ, ap, sym, subst, length, arith}
use Rattle.em_mem.specs.Pages.{IsAt, Pages, all_of, directories_made, mark, pages_made}
use Rattle.em_mem.proofs.MemoryLaws.{back_is}
use Rattle.em_mem.proofs.RowLaws.{on_ok}
use Rattle.em_mem.proofs.StoreLaws.{behind, length_behind, length_first}
use Rattle.em_mem.proofs.StoreLaws.{made_behind, made_first, mark_behind, mark_first}
use Rattle.em_mem.proofs.store.Store.make.Goals as goal

pub make_at-requires-else-page-count-clause-at : goal.make_at-requires-else-page-count-clause-at
make_at-requires-else-page-count-clause-at c =
    let ps = c.self.inside.first.items in
    let ds = c.self.inside.directories.items in
    let l : c.args.page < length (all_of ps ds).made
    = subst (λ (s : Pages). c.args.page < length s.made) (sym c.self.view_is) c.requires in
    let here = behind ps ds c.self.inside.zeros.value c.self.invariant c.args.page (omega arith) l in
    omega (arith, here, ap length c.as_mut_slice-else-page-count.ensures.value)

pub returns-then-page-count-clause-made : goal.returns-then-page-count-clause-made
returns-then-page-count-clause-made c =
    let ps = c.self.inside.first.items in
    let ds = c.self.inside.directories.items in
    let back = back_is c.self.inside.first.len c.make_at.new.pages ps
    (c.make_at.ensures.len ∙ ap length c.as_mut_slice.ensures.value) c.self.inside.first.ok.0 in
    on_ok c.make_at.result
    (
    λ made.
    ap (λ qs. (all_of qs ds).made) back
    ∙ mark_first ps ds c.self.inside.zeros.value c.self.invariant c.args.page c.make_at.new.pages (omega arith)
    (made ∙ ap (λ xs. mark (pages_made xs) c.args.page) c.as_mut_slice.ensures.value)
    ∙ ap (λ (s : Pages). mark s.made c.args.page) c.self.view_is
    ) c.make_at.ensures.made

pub returns-then-page-count-clause-ready : goal.returns-then-page-count-clause-ready
returns-then-page-count-clause-ready c = λ is.
    let ps = c.self.inside.first.items in
    let ds = c.self.inside.directories.items in
    let here : IsAt (pages_made ps) c.args.page
    = made_first ps ds c.self.inside.zeros.value c.self.invariant c.args.page (omega arith)
    ∙ subst (λ (s : Pages). IsAt s.made c.args.page) (sym c.self.view_is) is in
    c.make_at.ensures.ready
    (subst (λ xs. IsAt (pages_made xs) c.args.page) (sym c.as_mut_slice.ensures.value) here)

pub returns-else-page-count-clause-made : goal.returns-else-page-count-clause-made
returns-else-page-count-clause-made c =
    let ps = c.self.inside.first.items in
    let ds = c.self.inside.directories.items in
    let k : c.args.page - c.len-count.result ≡ c.args.page - length ps = omega arith in
    let at = c.make_at-else-page-count in
    let back = back_is c.self.inside.directories.len at.new.directories ds
    (at.ensures.len ∙ ap length c.as_mut_slice-else-page-count.ensures.value) c.self.inside.directories.ok.0 in
    on_ok at.result
    (
    λ made.
    ap (λ es. (all_of ps es).made) back
    ∙ mark_behind ps ds c.self.inside.zeros.value c.self.invariant c.args.page at.new.directories (omega arith)
    (made ∙ (λ i. mark (directories_made (c.as_mut_slice-else-page-count.ensures.value i)) (k i)))
    ∙ ap (λ (s : Pages). mark s.made c.args.page) c.self.view_is
    ) at.ensures.made

pub returns-else-page-count-clause-ready : goal.returns-else-page-count-clause-ready
returns-else-page-count-clause-ready c = λ is.
    let ps = c.self.inside.first.items in
    let ds = c.self.inside.directories.items in
    let k : c.args.page - c.len-count.result ≡ c.args.page - length ps = omega arith in
    let here : IsAt (directories_made ds) (c.args.page - length ps)
    = made_behind ps ds c.self.inside.zeros.value c.self.invariant c.args.page (omega arith)
    ∙ subst (λ (s : Pages). IsAt s.made c.args.page) (sym c.self.view_is) is in
    c.make_at-else-page-count.ensures.ready
    (subst (λ xs. IsAt (directories_made xs) (c.args.page - c.len-count.result))
    (sym c.as_mut_slice-else-page-count.ensures.value) (subst (IsAt (directories_made ds)) (sym k) here))

pub returns-then-page-count-clause-len : goal.returns-then-page-count-clause-len
returns-then-page-count-clause-len c =
    let ps = c.self.inside.first.items in
    let ds = c.self.inside.directories.items in
    let back = back_is c.self.inside.first.len c.make_at.new.pages ps
    (c.make_at.ensures.len ∙ ap length c.as_mut_slice.ensures.value) c.self.inside.first.ok.0 in
    ap (λ qs. length (all_of qs ds).made) back
    ∙ length_first c.make_at.new.pages ps ds c.make_at.ensures.whole c.self.invariant.whole
    (c.make_at.ensures.len ∙ ap length c.as_mut_slice.ensures.value)
    ∙ ap (λ (s : Pages). length s.made) c.self.view_is

pub returns-else-page-count-clause-len : goal.returns-else-page-count-clause-len
returns-else-page-count-clause-len c =
    let ps = c.self.inside.first.items in
    let ds = c.self.inside.directories.items in
    let at = c.make_at-else-page-count in
    let len = at.ensures.len ∙ ap length c.as_mut_slice-else-page-count.ensures.value in
    let back = back_is c.self.inside.directories.len at.new.directories ds len c.self.inside.directories.ok.0 in
    ap (λ es. length (all_of ps es).made) back
    ∙ length_behind ps at.new.directories ds at.ensures.whole c.self.invariant.whole_directories len
    ∙ ap (λ (s : Pages). length s.made) c.self.view_is
