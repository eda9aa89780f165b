use Rattle.std.proofs.Common.{◌≡◌, ◌∙◌, ◌*◌, ◌-◌, ◌<◌, ℕ, ap, sym, subst, length, arith}
use Rattle.em_mem.specs.declared.TheConstants.{PAGE_OCTETS}
use Rattle.em_mem.specs.Memory.{part}
use Rattle.em_mem.specs.Pages.{Pages, all_of, directories_octets, pages_octets}
use Rattle.em_mem.proofs.StoreLaws.{behind, length-page, octets_behind, octets_first}
use Rattle.em_mem.proofs.store.Store.octets.Goals as goal

pub octets_at-requires-else-page-count-clause-at : goal.octets_at-requires-else-page-count-clause-at
octets_at-requires-else-page-count-clause-at c =
    let ps = c.self.inside.first.items in
    let ds = c.self.inside.directories.items in
    let l : c.args.page < length (all_of ps ds).made
    = subst (λ (s : Pages). c.args.page < length s.made) (sym c.self.view_is) c.requires in
    let here = behind ps ds c.self.inside.zeros.value c.self.invariant c.args.page (omega arith) l in
    omega (arith, here, ap length c.as_slice-else-page-count.ensures.value)

pub returns-then-page-count-clause-octets : goal.returns-then-page-count-clause-octets
returns-then-page-count-clause-octets c =
    let ps = c.self.inside.first.items in
    let ds = c.self.inside.directories.items in
    c.octets_at.ensures
    ∙ ap (λ xs. part (pages_octets xs) (PAGE_OCTETS * c.args.page) PAGE_OCTETS) c.as_slice.ensures.value
    ∙ octets_first ps ds c.self.inside.zeros.value c.self.invariant c.args.page (omega arith)
    ∙ ap (λ (s : Pages). part s.octets (PAGE_OCTETS * c.args.page) PAGE_OCTETS) c.self.view_is

pub returns-then-page-count-clause-whole : goal.returns-then-page-count-clause-whole
returns-then-page-count-clause-whole c =
    let ps = c.self.inside.first.items in
    let ds = c.self.inside.directories.items in
    let l : c.args.page < length (all_of ps ds).made
    = subst (λ (s : Pages). c.args.page < length s.made) (sym c.self.view_is) c.requires in
    ap length
    (
    c.octets_at.ensures
    ∙ ap (λ xs. part (pages_octets xs) (PAGE_OCTETS * c.args.page) PAGE_OCTETS) c.as_slice.ensures.value
    ∙ octets_first ps ds c.self.inside.zeros.value c.self.invariant c.args.page (omega arith)
    )
    ∙ length-page ps ds c.self.inside.zeros.value c.self.invariant c.args.page l

pub returns-else-page-count-clause-octets : goal.returns-else-page-count-clause-octets
returns-else-page-count-clause-octets c =
    let ps = c.self.inside.first.items in
    let ds = c.self.inside.directories.items in
    let k : c.args.page - c.len-count.result ≡ c.args.page - length ps = omega arith in
    c.octets_at-else-page-count.ensures
    ∙ (λ i. part (directories_octets (c.as_slice-else-page-count.ensures.value i)) (PAGE_OCTETS * k i) PAGE_OCTETS)
    ∙ octets_behind ps ds c.self.inside.zeros.value c.self.invariant c.args.page (omega arith)
    ∙ ap (λ (s : Pages). part s.octets (PAGE_OCTETS * c.args.page) PAGE_OCTETS) c.self.view_is

pub returns-else-page-count-clause-whole : goal.returns-else-page-count-clause-whole
returns-else-page-count-clause-whole c =
    let ps = c.self.inside.first.items in
    let ds = c.self.inside.directories.items in
    let k : c.args.page - c.len-count.result ≡ c.args.page - length ps = omega arith in
    let l : c.args.page < length (all_of ps ds).made
    = subst (λ (s : Pages). c.args.page < length s.made) (sym c.self.view_is) c.requires in
    ap length
    (
    c.octets_at-else-page-count.ensures
    ∙ (λ i. part (directories_octets (c.as_slice-else-page-count.ensures.value i)) (PAGE_OCTETS * k i) PAGE_OCTETS)
    ∙ octets_behind ps ds c.self.inside.zeros.value c.self.invariant c.args.page (omega arith)
    )
    ∙ length-page ps ds c.self.inside.zeros.value c.self.invariant c.args.page l
