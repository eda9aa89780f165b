use Rattle.std.proofs.Common.{◌∙◌, None, subst, sym}
use Rattle.em_mem.specs.declared.TheConstants.{PAGE_OCTETS, PARTS}
use Rattle.em_mem.specs.Pages.{AllAre, IsWholePage}
use Rattle.em_mem.proofs.LevelLaws.{all_same}
use Rattle.em_mem.proofs.RowLaws.{length-zeros}
use Rattle.em_mem.proofs.copies.copy_table.Goals as goal

pub copy_pages-requires-clause-copy : goal.copy_pages-requires-clause-copy
copy_pages-requires-clause-copy c =
    subst (AllAre IsWholePage)
    (sym (c.as_mut_slice.ensures.value ∙ c.deref_mut.ensures.value ∙ c.in_ok-copied-in-Some.ensures.ok))
    (all_same IsWholePage PARTS None (length-zeros PAGE_OCTETS))
