use Rattle.std.proofs.Common.{sym, refl}
use Rattle.std.proofs.lemmas.List.{take_rest}
use Rattle.em_text.proofs.FrontLemmas.{no_number_read, number_read}
use Rattle.em_text.proofs.words.Words.number.Goals as goal

pub returns-in_default-clause-value : goal.returns-in_default-clause-value
returns-in_default-clause-value c =
    let line = c.args.self.now.0.now in
    let k = c.blanks_len.result in
    let wrong = rw c.in_default.is at c.number_at_front.ensures.none in
    sym (no_number_read c.args.base c.args.most line k _ c.blanks_len.ensures.value (take_rest line k)
    c.requires.letters (wrong refl))

pub returns-clause-value : goal.returns-clause-value
returns-clause-value c =
    let line = c.args.self.now.0.now in
    let k = c.blanks_len.result in
    number_read c.args.base c.args.most line k c.in-Some.value c.in-Some.len _ _ c.blanks_len.ensures.value
    (take_rest line k) c.requires.letters c.in-Some.ensures.some (take_rest _ c.in-Some.len)
