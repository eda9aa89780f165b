use Rattle.std.proofs.Common.{◌≡◌, ◌∙◌, ◌⊎◌, inl, inr, false, get_or, sym, ap, length, arith}
use Rattle.em_mem.specs.Memory.{Cells}
use Rattle.em_mem.specs.Pages.{cells_of, mark}
use Rattle.em_mem.proofs.MemoryLaws.{index_in, length-mark, make_cells, made_cells, mark_more, mark_only, marked}
use Rattle.em_mem.proofs.RowLaws.{either, on_ok}
use Rattle.em_mem.proofs.memory.GuestMemory.make_page.Goals as goal

pub make-requires : goal.make-requires
make-requires c =
    index_in c.args.self.now c.self.inside.base c.self.inside.size c.self.inside.store c.self.invariant c.self.view_is
    c.args.page c.requires

pub invariant_of-self : goal.invariant_of-self
invariant_of-self c = record {
  range = c.self.invariant.range;
  room = omega (arith, c.self.invariant.room, ap length c.make.ensures.octets);
  pages = omega (arith, c.self.invariant.pages, ap length c.make.ensures.octets, c.make.ensures.len);
}

-- the pages are marked so, or, where memory was refused, as before
abbrev IsMarkedOr : goal.After-make → Type 0
IsMarkedOr c =
    let now = (cells_of c.self.inside.base c.self.inside.size c.make.new.self).made in
    (now ≡ mark c.args.self.now.made c.args.page) ⊎ (now ≡ c.args.self.now.made)

marks : (c : goal.After-make) → IsMarkedOr c
marks c =
    either c.make.result
    (make_cells c.args.self.now c.self.inside.base c.self.inside.size c.self.inside.store c.self.invariant
    c.self.view_is c.make.new.self c.args.page c.requires)
    (
    λ same. ap (λ s. (cells_of c.self.inside.base c.self.inside.size s).made) same
    ∙ ap (λ (v : Cells). v.made) c.self.view_is
    )
    c.make.ensures.made c.make.ensures.same

pub returns-clause-made : goal.returns-clause-made
returns-clause-made c =
    on_ok c.make.result
    (
    λ is. ap (λ m. get_or m c.args.page false)
    (make_cells c.args.self.now c.self.inside.base c.self.inside.size c.self.inside.store c.self.invariant
    c.self.view_is c.make.new.self c.args.page c.requires is)
    ∙ marked c.args.self.now.made c.args.page c.requires.to
    ) c.make.ensures.made

pub returns-clause-len : goal.returns-clause-len
returns-clause-len c = elim (marks c) [
  | inl is ↦ ap length is ∙ length-mark c.args.self.now.made c.args.page c.requires.to
  | inr same ↦ ap length same
]

pub returns-clause-more : goal.returns-clause-more
returns-clause-more c = λ p was. elim (marks c) [
  | inl is ↦ ap (λ m. get_or m p false) is ∙ mark_more c.args.self.now.made c.args.page p c.requires.to was
  | inr same ↦ ap (λ m. get_or m p false) same ∙ was
]

pub returns-clause-only : goal.returns-clause-only
returns-clause-only c = λ p now. elim (marks c) [
  | inl is ↦
      mark_only c.args.self.now.made c.args.page p c.requires.to (ap (λ m. get_or m p false) (sym is) ∙ now)
  | inr same ↦ inl (ap (λ m. get_or m p false) (sym same) ∙ now)
]

pub returns-clause-ready : goal.returns-clause-ready
returns-clause-ready c = λ is.
    c.make.ensures.ready
    (made_cells c.args.self.now c.self.inside.base c.self.inside.size c.self.inside.store c.self.invariant
    c.self.view_is c.args.page c.requires ∙ is)
