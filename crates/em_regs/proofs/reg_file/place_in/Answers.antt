use Rattle.std.proofs.Common.{◌+◌, ◌≡◌, ◌∙◌, ap, get_or, arith}
use Rattle.em_regs.specs.declared.table.Row.{Row}
use Rattle.em_regs.specs.Table.{row_of, place_of}
use Rattle.em_regs.specs.Storage.{offsets}
use Rattle.em_regs.proofs.PlaceLaws.{place_is, place_within, length-offsets}
use Rattle.em_regs.proofs.reg_file.place_in.Goals as goal

place : (c : goal.After-from) → c.args.row.now.place + c.from.result ≡ place_of c.args.reg
place c =
    ap (λ (r : Row). r.place + c.from.result) c.requires.row
    ∙ ap (λ i. (row_of c.args.reg).place + i) (c.from.ensures ∙ c.index.ensures)

pub returns-clause-place : goal.returns-clause-place
returns-clause-place c = ap (λ n. get_or offsets n 0) (place c) ∙ place_is c.args.reg c.requires.stored

pub returns-clause-within : goal.returns-clause-within
returns-clause-within c = omega (arith, place c, place_within c.args.reg c.requires.stored, length-offsets)
