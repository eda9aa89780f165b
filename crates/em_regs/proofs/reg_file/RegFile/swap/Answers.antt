use Rattle.std.proofs.Common.{◌≡◌, ◌∙◌, ap, sym, arith, get_or, set, refl, Some}
use Rattle.em_regs.specs.Storage.{offsets, words_at}
use Rattle.em_regs.proofs.Entries.{reverses}
use Rattle.em_regs.proofs.Words.{IsPlace, word_is, word_set}
use Rattle.em_regs.proofs.PlaceLaws.{distinct-offsets, length-offsets}
use Rattle.em_regs.proofs.reg_file.RegFile.swap.Goals as goal

place : (c : goal.After-replace-old)
    → IsPlace offsets c.self.inside.words c.args.self.now c.args.place (get_or offsets c.args.place 0)
place c = record {
  differ = distinct-offsets;
  offset = omega (arith, c.requires, length-offsets);
  word = omega (arith, c.requires);
  place = refl;
  words = c.self.view_is;
}

pub returns-clause-state : goal.returns-clause-state
returns-clause-state c =
    ap (λ i. words_at offsets (set c.self.inside.words i c.replace-old.new.dest)) c.from.ensures
    ∙ ap (λ w. words_at offsets (set c.self.inside.words c.args.place w)) c.replace-old.ensures.after
    ∙ word_set c.args.value (place c)

pub returns-clause-reverses : goal.returns-clause-reverses
returns-clause-reverses c =
    let was : get_or c.self.inside.words c.args.place 0 ≡ c.replace-old.result =
    ap (λ i. get_or c.self.inside.words i 0) (sym c.from.ensures) ∙ sym c.replace-old.ensures.value in
    reverses _ (word_is (place c) ∙ ap (λ w. Some w) was) (returns-clause-state c)
