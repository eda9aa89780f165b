use Rattle.std.proofs.Common.{◌≡◌, ◌∙◌, None, sym, ap, arith, get_or}
use Rattle.std.specs.Prelude.{unwrap_or}
use Rattle.em_regs.specs.Table.{offset_of}
use Rattle.em_regs.specs.Storage.{offsets}
use Rattle.em_regs.specs.RegFile.{at, old_at}
use Rattle.em_regs.proofs.Entries.{old_here, old_elsewhere, at-undo}
use Rattle.em_regs.proofs.Words.{apart-at}
use Rattle.em_regs.proofs.PlaceLaws.{distinct-offsets, length-offsets}
use Rattle.em_regs.proofs.reg_file.RegUndo.old_of.Goals as goal

pub returns-then-from-place_of-clause-before : goal.returns-then-from-place_of-clause-before
returns-then-from-place_of-clause-before c =
    let here : c.args.self.now.at ≡ offset_of c.args.reg
    = ap (λ w. w.at) (sym c.self.view_is)
    ∙ ap (λ i. get_or offsets i 0) (sym c.from.ensures ∙ c.if-from-place_of.true) ∙ c.place_of.ensures.place in
    let old : c.args.self.now.old ≡ c.self.inside.old = ap (λ w. w.old) (sym c.self.view_is) in
    λ m. at-undo m c.args.self.now (offset_of c.args.reg)
    ∙ ap (λ x. unwrap_or x (at m (offset_of c.args.reg))) (old_here c.args.self.now (offset_of c.args.reg) here) ∙ old

pub returns-else-from-place_of-clause-old : goal.returns-else-from-place_of-clause-old
returns-else-from-place_of-clause-old c =
    let none : old_at c.args.self.now (offset_of c.args.reg) ≡ None
    = old_elsewhere c.args.self.now (offset_of c.args.reg) (λ same.
    apart-at offsets c.self.inside.place c.place_of.result distinct-offsets
    (omega (arith, length-offsets, c.self.invariant)) (omega (arith, length-offsets)) (λ is. c.if-from-place_of.false (c.from.ensures ∙ is))
    (ap (λ w. w.at) c.self.view_is ∙ same ∙ sym c.place_of.ensures.place)) in
    sym none

pub returns-else-from-place_of-clause-before : goal.returns-else-from-place_of-clause-before
returns-else-from-place_of-clause-before c = λ m.
    at-undo m c.args.self.now (offset_of c.args.reg)
    ∙ ap (λ x. unwrap_or x (at m (offset_of c.args.reg))) (sym (returns-else-from-place_of-clause-old c))
