use Rattle.std.proofs.Common.{◌∙◌, ◌-◌, ap, sym, arith}
use Rattle.std.specs.FinMap as map
use Rattle.std.specs.Prelude.{bit_and, bit_or}
use Rattle.std.proofs.lemmas.Nat.{or_of_32}
use Rattle.em_regs.specs.Table.{offset_of}
use Rattle.em_regs.specs.declared.reg.Reg.TheVariants.{Icr}
use Rattle.em_latch.specs.Latches.{grown}
use Rattle.em_latch.proofs.CountLaws.{grown_causes}
use Rattle.em_latch.proofs.latches.Latches.raise_into.Goals as goal

pub returns-clause-state : goal.returns-clause-state
returns-clause-state c =
    let m = c.args.self.now in
    let set = c.word-set.result in
    let new = c.args.causes in
    c.grow_if.ensures.state
    ∙ ap (λ v. map.insert m (offset_of Icr) (grown v (new - bit_and set new))) (sym c.word-set.ensures)
    ∙ ap (map.insert m (offset_of Icr)) (grown_causes set new (or_of_32 set new (omega arith) (omega arith)))
    ∙ ap (λ v. map.insert m (offset_of Icr) (bit_or v new)) c.word-set.ensures
