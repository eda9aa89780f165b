use Rattle.std.proofs.Common.{◌≡◌, ◌∙◌, ap, rules, sym}
use Rattle.em_regs.specs.Table.{offset_of}
use Rattle.em_latch.specs.Latches.{before_at}
use Rattle.em_latch.proofs.BeforeLaws.{at-undone}
use Rattle.em_latch.proofs.undo.LatchUndo.before.Goals as goal

told : (c : goal.In_default) → c.loop-growth.value ≡ before_at c.args.self.now (offset_of c.args.reg) c.args.now
told c = search rules

pub returns-clause-before : goal.returns-clause-before
returns-clause-before c = λ m is.
    at-undone m c.args.self.now (offset_of c.args.reg) ∙ ap (before_at c.args.self.now (offset_of c.args.reg)) is
    ∙ sym (told c)
