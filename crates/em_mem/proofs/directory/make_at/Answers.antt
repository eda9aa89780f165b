use Rattle.std.proofs.Common.{◌∙◌, ◌+◌, ◌*◌, ◌/◌, ◌%◌, ◌∷◌, [], true, false, None, ap, sym, refl, length, arith}
use Rattle.em_mem.specs.declared.TheConstants.{PAGE_OCTETS, PARTS, TABLE_OCTETS, DIRECTORY_OCTETS, DIRECTORY_PAGES}
use Rattle.em_mem.specs.Memory.{part}
use Rattle.em_mem.specs.Pages.{table_octets, table_made, IsWholeTable}
use Rattle.em_mem.proofs.LevelLaws.{put_level, get_level, same_level}
use Rattle.em_mem.proofs.RowLaws.{table_marks, on_ok, on_err}
use Rattle.em_mem.proofs.directory.make_at.Goals as goal

pub returns-clause-octets : goal.returns-clause-octets
returns-clause-octets c =
    same_level table_octets c.args.tables.now (c.args.at / PARTS) c.make.new.table _ c.make.ensures.octets

pub returns-clause-made : goal.returns-clause-made
returns-clause-made c =
    on_ok c.make.result
    (put_level table_made IsWholeTable PARTS table_marks c.args.tables.now (c.args.at / PARTS) c.args.at
    (c.args.at % PARTS) (true ∷ []) c.make.new.table _
    c.requires.whole (omega (arith, c.requires.at)) (omega arith) (omega arith)) c.make.ensures.made

pub returns-clause-same : goal.returns-clause-same
returns-clause-same c =
    on_err c.make.result (same_level table_made c.args.tables.now
    (c.args.at / PARTS) c.make.new.table _) c.make.ensures.same

pub returns-clause-ready : goal.returns-clause-ready
returns-clause-ready c =
    λ is. c.make.ensures.ready (sym (get_level table_made IsWholeTable PARTS table_marks c.args.tables.now
    (c.args.at / PARTS) c.args.at (c.args.at % PARTS) _ false
    c.requires.whole (omega (arith, c.requires.at)) (omega arith) (omega arith)) ∙ is)
