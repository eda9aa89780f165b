use Rattle.std.proofs.Common.{◌/◌, slice_index_or, eqb-true}
use Rattle.em_regs.specs.declared.table.TheConstants.{PAGE_AT}
use Rattle.em_regs.proofs.TableLaws.{none_on_page}
use Rattle.em_regs.proofs.table.is_bare.Goals as goal

pub returns : goal.returns
returns c = λ t.
    let page = c.args.offset / 64 in
    none_on_page page (eqb-true (slice_index_or PAGE_AT page 0) 0 t)
