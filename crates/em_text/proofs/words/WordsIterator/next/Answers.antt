use Rattle.std.proofs.Common.{◌≡◌, ◌-◌, ◌<◌, [], length, take, drop, sym, ap, ◌∙◌, arith, rules}
use Rattle.std.specs.List.{position_or_len, prefix_len}
use Rattle.std.proofs.lemmas.List.{take_rest, nil_from_length}
use Rattle.em_text.specs.Words.{words_of, is_blank}
use Rattle.em_text.proofs.WordsLemmas.{words_of-blanks, words_of-nil, first_word}
use Rattle.em_text.proofs.words.WordsIterator.next.Goals as goal

pub returns-then-is_empty-clause-steps : goal.returns-then-is_empty-clause-steps
returns-then-is_empty-clause-steps c =
    let line = c.args.self.now.0.now in
    let n = c.blanks_len.result in
    let front : n ≡ prefix_len is_blank line = c.blanks_len.ensures.value in
    let none : words_of line ≡ [] =
    sym (words_of-blanks line) ∙ ap (λ k. words_of (drop k line)) (sym front) ∙ ap words_of (sym (take_rest line n))
    ∙ ap words_of (nil_from_length _ (search rules)) ∙ words_of-nil in
    (none, none)

pub returns-clause-steps : goal.returns-clause-steps
returns-clause-steps c =
    let line = c.args.self.now.0.now in
    let n = c.blanks_len.result in
    let from : take (length line - n) (drop n line) ≡ drop n line = take_rest line n in
    let some : n < length line = search rules in
    first_word line n c.word_len-len.result c.split_at.result.0.now c.split_at.result.1.now
    c.blanks_len.ensures.value some
    (c.word_len-len.ensures.value ∙ ap (position_or_len is_blank) from)
    (c.split_at.ensures.front ∙ ap (take c.word_len-len.result) from)
    (c.split_at.ensures.back ∙ ap (drop c.word_len-len.result) from)

pub returns-clause-goes : goal.returns-clause-goes
returns-clause-goes c =
    let e = ap length (returns-clause-steps c) in
    record {
      on = λ _. (tt, tt, omega (arith, e));
      keeps = tt;
      rests = λ _. tt;
    }
