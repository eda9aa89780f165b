use Rattle.std.proofs.Common.{◌<◌, ◌/◌, arith}
use Rattle.em_regs.proofs.TableLaws.{page_is_there, page_gives}
use Rattle.em_regs.proofs.table.word_at.Goals as goal

pub bounds-from : goal.bounds-from
bounds-from c =
    let at : c.args.offset / 64 < 384 = omega (arith, c.requires.within) in
    rw c.from.ensures (page_is_there (c.args.offset / 64) at)

pub returns : goal.returns
returns c = page_gives c.args.offset c.from.result c.from.ensures c.requires.within c.requires.whole
