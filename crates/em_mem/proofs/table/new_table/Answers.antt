use Rattle.std.proofs.Common.{◌∙◌, None, ap, sym, subst, length}
use Rattle.std.proofs.lemmas.List.{length-replicate}
use Rattle.em_mem.specs.declared.TheConstants.{PAGE_OCTETS, PARTS}
use Rattle.em_mem.specs.Pages.{Page, AllAre, IsWholePage, pages_octets, pages_made}
use Rattle.em_mem.proofs.LevelLaws.{all_same}
use Rattle.em_mem.proofs.RowLaws.{length-zeros, no_pages, no_page_made}
use Rattle.em_mem.proofs.table.new_table.Goals as goal

pub returns-clause-whole : goal.returns-clause-whole
returns-clause-whole c = (
  ap length c.in_ok-new.ensures.ok ∙ length-replicate {A = Page} PARTS None,
  subst (AllAre IsWholePage) (sym c.in_ok-new.ensures.ok)
      (all_same IsWholePage PARTS None (length-zeros PAGE_OCTETS)),
)

pub returns-clause-octets : goal.returns-clause-octets
returns-clause-octets c = ap pages_octets c.in_ok-new.ensures.ok ∙ no_pages

pub returns-clause-made : goal.returns-clause-made
returns-clause-made c = ap pages_made c.in_ok-new.ensures.ok ∙ no_page_made
