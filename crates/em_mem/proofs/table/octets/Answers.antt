use Rattle.std.proofs.Common.{◌∙◌, ◌*◌, ap, sym, arith}
use Rattle.em_mem.specs.declared.TheConstants.{PAGE_OCTETS, TABLE_OCTETS, PARTS}
use Rattle.em_mem.specs.Memory.{part}
use Rattle.em_mem.specs.Pages.{table_octets}
use Rattle.em_mem.proofs.RowLaws.{zeros_part}
use Rattle.em_mem.proofs.table.octets.Goals as goal

pub returns-in-None : goal.returns-in-None
returns-in-None c =
    c.as_slice-in-None.ensures ∙ c.requires.zeros
    ∙ sym (zeros_part TABLE_OCTETS (PAGE_OCTETS * c.args.at) PAGE_OCTETS (omega (arith, c.requires.at)))
    ∙ ap (λ t. part (table_octets t) (PAGE_OCTETS * c.args.at) PAGE_OCTETS) (sym c.in-None.is)
