use Rattle.std.proofs.Common.{◌≡◌, ◌∙◌, ◌+◌, ◌*◌, ◌-◌, ◌/◌, ◌++◌, ◌≤◌, None, ℕ, ap, sym, subst, min, arith}
use Rattle.em_mem.specs.declared.TheConstants.{DIRECTORY_PAGES, PAGE_OCTETS}
use Rattle.em_mem.specs.Memory.{none_made, zeros}
use Rattle.em_mem.specs.Pages.{AllAre, IsWholeDirectory, IsWholePage, all_of}
use Rattle.em_mem.proofs.LevelLaws.{all_same}
use Rattle.em_mem.proofs.RowLaws.{length-zeros}
use Rattle.em_mem.proofs.StoreLaws.{unmade_made, unmade_octets}
use Rattle.em_mem.proofs.store.Store.new.Goals as goal

pub invariant_of-result : goal.invariant_of-result
invariant_of-result c = record {
  whole = subst (AllAre IsWholePage) (sym c.in_ok-first.ensures)
      (all_same IsWholePage c.min-count.result None (length-zeros PAGE_OCTETS));
  whole_directories = subst (AllAre IsWholeDirectory) (sym c.in_ok-directories.ensures)
      (all_same IsWholeDirectory ((c.args.pages - c.min-count.result +
      (DIRECTORY_PAGES - 1)) / DIRECTORY_PAGES) None tt);
  zero = c.in_ok-zeros.ensures;
}

pub returns : goal.returns
returns c =
    let n : ℕ = c.min-count.result in
    let k : ℕ = (c.args.pages - n + (DIRECTORY_PAGES - 1)) / DIRECTORY_PAGES in
    record {
      count = n + DIRECTORY_PAGES * k;
      enough = omega arith;
      octets = (λ i. (all_of (c.in_ok-first.ensures i) (c.in_ok-directories.ensures i)).octets) ∙ unmade_octets n k;
      made = (λ i. (all_of (c.in_ok-first.ensures i) (c.in_ok-directories.ensures i)).made) ∙ unmade_made n k;
    }
