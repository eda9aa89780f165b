use Rattle.std.proofs.Common.{◌∙◌, ◌+◌, List, ℕ, ap, length}
use Rattle.em_mem.specs.Window.{lay_over}
use Rattle.em_mem.proofs.WindowLaws.{lay_over-append}
use Rattle.em_mem.proofs.window.lay_both_over.Goals as goal

pub returns-then-not-is_empty : goal.returns-then-not-is_empty
returns-then-not-is_empty c =
    c.lay-then-not-is_empty.ensures
    ∙ ap (λ (w : List ℕ). lay_over c.args.addr w
    (record { at = c.args.at + length c.args.first.now; octets = c.args.second.now })) c.lay.ensures
    ∙ lay_over-append c.args.addr c.args.window.now c.args.at c.args.first.now c.args.second.now
