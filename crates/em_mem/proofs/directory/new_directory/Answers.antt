use Rattle.std.proofs.Common.{◌∙◌, ap}
use Rattle.em_mem.specs.Pages.{tables_octets, tables_made}
use Rattle.em_mem.proofs.RowLaws.{no_tables, no_table_made}
use Rattle.em_mem.proofs.directory.new_directory.Goals as goal

pub returns-clause-octets : goal.returns-clause-octets
returns-clause-octets c = ap tables_octets c.in_ok-new.ensures.ok ∙ no_tables

pub returns-clause-made : goal.returns-clause-made
returns-clause-made c = ap tables_made c.in_ok-new.ensures.ok ∙ no_table_made
