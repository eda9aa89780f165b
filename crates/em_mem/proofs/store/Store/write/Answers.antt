use Rattle.std.proofs.Common.{◌≡◌, ◌∙◌, ◌+◌, ◌*◌, ◌-◌, ◌<◌, ℕ, ap, sym, subst, length, arith}
use Rattle.em_mem.specs.declared.TheConstants.{PAGE_OCTETS}
use Rattle.em_mem.specs.Memory.{put}
use Rattle.em_mem.specs.Pages.{IsAt, Pages, all_of, directories_made, directories_octets, pages_made, pages_octets}
use Rattle.em_mem.proofs.MemoryLaws.{back_is}
use Rattle.em_mem.proofs.StoreLaws.{behind, made_behind, made_first, put_behind, put_first}
use Rattle.em_mem.proofs.store.Store.write.Goals as goal

pub write_at-requires-clause-made : goal.write_at-requires-clause-made
write_at-requires-clause-made c =
    let ps = c.self.inside.first.items in
    let ds = c.self.inside.directories.items in
    let here : IsAt (pages_made ps) c.args.page
    = made_first ps ds c.self.inside.zeros.value c.self.invariant c.args.page (omega arith)
    ∙ subst (λ (s : Pages). IsAt s.made c.args.page) (sym c.self.view_is) c.requires.made in
    subst (λ xs. IsAt (pages_made xs) c.args.page) (sym c.as_mut_slice.ensures.value) here

pub write_at-requires-else-page-count-clause-at : goal.write_at-requires-else-page-count-clause-at
write_at-requires-else-page-count-clause-at c =
    let ps = c.self.inside.first.items in
    let ds = c.self.inside.directories.items in
    let l : c.args.page < length (all_of ps ds).made
    = subst (λ (s : Pages). c.args.page < length s.made) (sym c.self.view_is) c.requires.page in
    let here = behind ps ds c.self.inside.zeros.value c.self.invariant c.args.page (omega arith) l in
    omega (arith, here, ap length c.as_mut_slice-else-page-count.ensures.value)

pub write_at-requires-else-page-count-clause-made : goal.write_at-requires-else-page-count-clause-made
write_at-requires-else-page-count-clause-made c =
    let ps = c.self.inside.first.items in
    let ds = c.self.inside.directories.items in
    let k : c.args.page - c.len-count.result ≡ c.args.page - length ps = omega arith in
    let here : IsAt (directories_made ds) (c.args.page - length ps)
    = made_behind ps ds c.self.inside.zeros.value c.self.invariant c.args.page (omega arith)
    ∙ subst (λ (s : Pages). IsAt s.made c.args.page) (sym c.self.view_is) c.requires.made in
    subst (λ xs. IsAt (directories_made xs) (c.args.page - c.len-count.result))
    (sym c.as_mut_slice-else-page-count.ensures.value) (subst (IsAt (directories_made ds)) (sym k) here)

pub returns-then-page-count-clause-octets : goal.returns-then-page-count-clause-octets
returns-then-page-count-clause-octets c =
    let ps = c.self.inside.first.items in
    let ds = c.self.inside.directories.items in
    let d = c.args.written.now in
    let back = back_is c.self.inside.first.len c.write_at.new.pages ps
    (c.write_at.ensures.len ∙ ap length c.as_mut_slice.ensures.value) c.self.inside.first.ok.0 in
    ap (λ qs. (all_of qs ds).octets) back
    ∙ put_first ps ds c.self.inside.zeros.value c.self.invariant c.args.page c.args.from d c.write_at.new.pages
    (omega arith) (omega (arith, c.requires.range))
    (c.write_at.ensures.octets
    ∙ ap (λ xs. put (pages_octets xs) (PAGE_OCTETS * c.args.page + c.args.from) d) c.as_mut_slice.ensures.value)
    ∙ ap (λ (s : Pages). put s.octets (PAGE_OCTETS * c.args.page + c.args.from) d) c.self.view_is

pub returns-else-page-count-clause-octets : goal.returns-else-page-count-clause-octets
returns-else-page-count-clause-octets c =
    let ps = c.self.inside.first.items in
    let ds = c.self.inside.directories.items in
    let d = c.args.written.now in
    let k : c.args.page - c.len-count.result ≡ c.args.page - length ps = omega arith in
    let at = c.write_at-else-page-count in
    let back = back_is c.self.inside.directories.len at.new.directories ds
    (at.ensures.len ∙ ap length c.as_mut_slice-else-page-count.ensures.value) c.self.inside.directories.ok.0 in
    ap (λ es. (all_of ps es).octets) back
    ∙ put_behind ps ds c.self.inside.zeros.value c.self.invariant c.args.page c.args.from d at.new.directories
    (omega arith)
    (at.ensures.octets
    ∙ (λ i. put (directories_octets (c.as_mut_slice-else-page-count.ensures.value i))
    (PAGE_OCTETS * k i + c.args.from) d))
    ∙ ap (λ (s : Pages). put s.octets (PAGE_OCTETS * c.args.page + c.args.from) d) c.self.view_is
