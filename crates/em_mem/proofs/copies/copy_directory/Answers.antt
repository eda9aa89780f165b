use Rattle.std.proofs.Common.{◌∙◌, None, subst, sym}
use Rattle.em_mem.specs.declared.TheConstants.{PARTS}
use Rattle.em_mem.specs.Pages.{AllAre, IsWholeTable}
use Rattle.em_mem.proofs.LevelLaws.{all_same}
use Rattle.em_mem.proofs.copies.copy_directory.Goals as goal

pub copy_tables-requires-clause-copy : goal.copy_tables-requires-clause-copy
copy_tables-requires-clause-copy c =
    subst (AllAre IsWholeTable)
    (sym (c.as_mut_slice.ensures.value ∙ c.deref_mut.ensures.value ∙ c.in_ok-copied-in-Some.ensures.ok))
    (all_same IsWholeTable PARTS None tt)
