use Rattle.std.proofs.Common.{◌∙◌, None, subst, sym}
use Rattle.em_mem.specs.declared.TheConstants.{PAGE_OCTETS}
use Rattle.em_mem.specs.Pages.{AllAre, IsWholeDirectory, IsWholePage}
use Rattle.em_mem.proofs.LevelLaws.{all_same}
use Rattle.em_mem.proofs.RowLaws.{length-zeros}
use Rattle.em_mem.proofs.store.Store.copy.Goals as goal

pub copy_pages-requires-clause-copy : goal.copy_pages-requires-clause-copy
copy_pages-requires-clause-copy c =
    subst (AllAre IsWholePage) (sym (c.as_mut_slice.ensures.value ∙ c.in_ok-first.ensures))
    (all_same IsWholePage c.len.result None (length-zeros PAGE_OCTETS))

pub copy_directories-requires-clause-copy : goal.copy_directories-requires-clause-copy
copy_directories-requires-clause-copy c =
    subst (AllAre IsWholeDirectory) (sym (c.as_mut_slice-2.ensures.value ∙ c.in_ok-directories.ensures))
    (all_same IsWholeDirectory c.len-2.result None tt)
