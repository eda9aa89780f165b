use Rattle.std.proofs.Common.{◌≡◌, ◌∙◌, ap, sym, arith, get_or, length, set}
use Rattle.em_latch.specs.declared.undo.TheConstants.{WORDS}
use Rattle.em_latch.proofs.PlaceLaws.{Swaps, swaps}
use Rattle.em_latch.proofs.latches.Latches.swap.Goals as goal

done : (c : goal.After-replace)
    → Swaps c.args.self.now (set c.self.inside.words c.from.result c.replace.new.dest) c.args.place c.args.value
    c.replace.result
done c =
    let words = c.self.inside.words in
    let size : length words ≡ WORDS = omega arith in
    swaps words c.requires size c.self.view_is
    (ap (λ i. get_or words i 0) (sym c.from.ensures) ∙ sym c.replace.ensures.value)
    (ap (λ i. set words i c.replace.new.dest) c.from.ensures ∙ ap (set words c.args.place) c.replace.ensures.after)

pub returns-clause-old : goal.returns-clause-old
returns-clause-old c = (done c).was

pub returns-clause-state : goal.returns-clause-state
returns-clause-state c = (done c).now
