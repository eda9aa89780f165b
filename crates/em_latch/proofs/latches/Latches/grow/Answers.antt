use Rattle.std.proofs.Common.{◌≡◌, ◌∙◌, ap, sym, arith, subst}
use Rattle.std.specs.FinMap as map
use Rattle.std.specs.Prelude.{slice_index, unwrap_or}
use Rattle.em_regs.specs.RegFile.{at}
use Rattle.em_latch.specs.Latches.{Reverses, grown}
use Rattle.em_latch.specs.Storage.{offsets}
use Rattle.em_latch.proofs.UndoLaws.{grows, newer_growth}
use Rattle.em_latch.proofs.latches.Latches.grow.Goals as goal

pub returns-clause-reverses : goal.returns-clause-reverses
returns-clause-reverses c = λ base older.
    let m = c.args.self.now in
    let o = slice_index offsets c.place_of-place.result in
    let was : c.word.result ≡ c.swap.result
    = c.word.ensures ∙ ap (at m) (sym c.place_of-place.ensures.place) ∙ ap (λ w. unwrap_or w 0) c.swap.ensures.old in
    subst (λ gs. Reverses base c.swap.new.self gs) (sym c.push.ensures)
    (newer_growth older (grows c.swap.result c.args.by c.swap.ensures.old (omega arith) (omega arith)
    (c.swap.ensures.state ∙ ap (λ w. map.insert m o (grown w c.args.by)) was)))
