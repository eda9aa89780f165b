use Rattle.em_regs.proofs.TableLaws.{none_behind}
use Rattle.em_regs.proofs.reg.Reg.next_page_with_registers.Goals as goal

pub returns-clause-last : goal.returns-clause-last
returns-clause-last c = none_behind c.loop-next.invariant.none c.loop-next-test.false
