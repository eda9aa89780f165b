use Rattle.std.proofs.Common.{◌≡◌, ◌∙◌, ap, sym, arith}
use Rattle.std.specs.FinMap as map
use Rattle.em_regs.specs.Table.{offset_of}
use Rattle.em_regs.specs.RegFile.{at}
use Rattle.em_latch.specs.Latches.{grown}
use Rattle.em_latch.proofs.CountLaws.{nothing_grown}
use Rattle.em_latch.proofs.latches.Latches.grow_if.Goals as goal

pub returns-then-by-eq0-clause-state : goal.returns-then-by-eq0-clause-state
returns-then-by-eq0-clause-state c =
    let m = c.args.self.now in
    let o = offset_of c.args.reg in
    nothing_grown m o c.has_word.ensures.there c.has_word.ensures.small
    ∙ ap (λ by. map.insert m o (grown (at m o) by)) (sym c.if-by-eq0.true)
