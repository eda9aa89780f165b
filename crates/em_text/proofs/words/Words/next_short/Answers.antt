use Rattle.std.proofs.Common.{◌≡◌, ◌-◌, ◌<◌, length, take, drop, sym, ap, ◌∙◌, rules}
use Rattle.std.specs.List.{position_or_len, prefix_len}
use Rattle.std.proofs.lemmas.List.{take_rest, nil_from_length}
use Rattle.em_text.specs.Words.{words_of, is_blank}
use Rattle.em_text.proofs.WordsLemmas.{words_of-blanks, words_of-nil, first_word}
use Rattle.em_text.proofs.words.Words.next_short.Goals as goal

pub returns-then-is_empty-clause-none : goal.returns-then-is_empty-clause-none
returns-then-is_empty-clause-none c = λ _.
    let line = c.args.self.now.0.now in
    let n = c.blanks_len.result in
    let front : n ≡ prefix_len is_blank line = c.blanks_len.ensures.value in
    sym (words_of-blanks line) ∙ ap (λ k. words_of (drop k line)) (sym front) ∙ ap words_of (sym (take_rest line n))
    ∙ ap words_of (nil_from_length _ (search rules)) ∙ words_of-nil

pub returns-clause-some : goal.returns-clause-some
returns-clause-some c =
    let line = c.args.self.now.0.now in
    let n = c.blanks_len.result in
    let from : take (length line - n) (drop n line) ≡ drop n line = take_rest line n in
    let some : n < length line = search rules in
    first_word line n c.short_word_len-len.result c.split_at.result.0.now c.split_at.result.1.now
    c.blanks_len.ensures.value some
    (c.short_word_len-len.ensures.value ∙ ap (position_or_len is_blank) from)
    (c.split_at.ensures.front ∙ ap (take c.short_word_len-len.result) from)
    (c.split_at.ensures.back ∙ ap (drop c.short_word_len-len.result) from)
