use Rattle.std.proofs.Common.{◌≡◌, ◌-◌, length, take, drop, sym, ap, ◌∙◌, refl, Some, None}
use Rattle.std.specs.Prelude.{option_map, IsSome}
use Rattle.std.specs.List.{before_first, position_or_len}
use Rattle.std.proofs.lemmas.List.{take_rest}
use Rattle.std.proofs.lemmas.Result.{IfOk-weaker, on_err_weaker}
use Rattle.em_text.specs.Numbers.{octets_of}
use Rattle.em_text.specs.Words.{words_of, is_blank}
use Rattle.em_text.proofs.NumbersLemmas.{octets_of-empty}
use Rattle.em_text.proofs.FrontLemmas.{first_read}
use Rattle.em_text.proofs.OctetsLemmas.{some_mapped}
use Rattle.em_text.proofs.words.Words.octets_into.Goals as goal

pub returns-in_default-clause-value : goal.returns-in_default-clause-value
returns-in_default-clause-value c =
    let line = c.args.self.now.0.now in
    let k = c.blanks_len.result in
    let from = take (length line - k) (drop k line) in
    let read =
    first_read octets_of line k from c.blanks_len.ensures.value (take_rest line k) (octets_of-empty _ refl) in
    IfOk-weaker c.refused_for.result _ _
    (λ found told.
    let none : octets_of (before_first is_blank from) ≡ None =
    ap (λ n. octets_of (take n from)) (sym c.word_len.ensures.value) ∙ told.1 in
    rw (told.0, read, none) refl) c.refused_for.ensures.none

pub returns-in_default-clause-memory : goal.returns-in_default-clause-memory
returns-in_default-clause-memory c =
    let line = c.args.self.now.0.now in
    let k = c.blanks_len.result in
    let from = take (length line - k) (drop k line) in
    let read =
    first_read octets_of line k from c.blanks_len.ensures.value (take_rest line k) (octets_of-empty _ refl) in
    on_err_weaker c.refused_for.result
    (λ (some : IsSome (octets_of (take c.word_len.result from))).
    rw (read) (some_mapped _ (octets_of (before_first is_blank from)) (rw (c.word_len.ensures.value) at some)))
    c.refused_for.ensures.digits

pub returns-in_default-found-clause-value : goal.returns-in_default-found-clause-value
returns-in_default-found-clause-value c =
    let line = c.args.self.now.0.now in
    let k = c.blanks_len.result in
    let read = first_read octets_of line k _ c.blanks_len.ensures.value (take_rest line k) (octets_of-empty _ refl) in
    let none = rw c.in_default-found.is at c.in-Ok.ensures.none in
    sym (read ∙ ap (option_map (λ octets. (octets, words_of _))) ((none refl).0))

pub returns-clause-value : goal.returns-clause-value
returns-clause-value c =
    let line = c.args.self.now.0.now in
    let k = c.blanks_len.result in
    let from = take (length line - k) (drop k line) in
    let read =
    first_read octets_of line k from c.blanks_len.ensures.value (take_rest line k) (octets_of-empty _ refl) in
    let some = rw c.in-Some.is at c.in-Ok.ensures.some in
    let rest = ap (λ n. drop n from) (sym some.0) ∙ sym (take_rest from c.in-Some.len) in
    sym (read ∙ ap (option_map (λ octets. (octets, words_of (drop (position_or_len is_blank from) from)))) some.1
    ∙ ap (λ left. Some (c.octets_at_front_into.new.octets.items, words_of left)) rest)
