-- What the words of a line say: an event, or steps back.
use Rattle.std.proofs.Common.{◌≡◌, ℕ, ◌^◌, ◌<◌, ◌≤◌, true, false, not, List, [], ◌∷◌}
use Rattle.std.proofs.Common.{◌++◌, length, ap, ◌∙◌, refl, arith, codes, Some, append_assoc}
use Rattle.std.specs.Prelude.{decimal, filter, nat_lt}
use Rattle.std.specs.List.{All, list_all, slice_split}
use Rattle.std.proofs.lemmas.Bool.{lt-ltb}
use Rattle.std.proofs.lemmas.Bool.Decides.{nat_tests}
use Rattle.std.proofs.lemmas.List.Splits.{slice_split_at, slice_split_none}
use Rattle.hex.specs.Hex.{IsBytes}
use Rattle.em_text.specs.Words.{words_of, is_blank}
use Rattle.em_text.specs.Numbers.{number, octets_of}
use Rattle.em_text.specs.Writer.{hex_text}
use Rattle.em_step.specs.Event.{Event, reads, writes, pokes, arrives, links, receives, transmits}
use Rattle.em_line.specs.Command.{back_by, event}
use Rattle.em_line.specs.ParsedLine.{says}
use Rattle.em_line.specs.Grammar.{from_one_to, parsed_line, words_form, with}
use Rattle.em_kept.specs.Digits.{number_digits}
use Rattle.em_kept.specs.Kept.{back_words, event_words}
use Rattle.em_kept.specs.ReadBack.{HasOctets, IsTyped}
use Rattle.em_kept.proofs.DigitLaws.{decimal_read, no_blank, octets_of_hex, solid_decimal, some_decimal, some_hex}
use Rattle.em_kept.proofs.PartsOfLines.{all_not}
use Rattle.em_kept.proofs.DigitLaws.{read_32, read_64, solid_number, some_number}

-- ---- words

-- a word: octets, none of them a blank
pub record IsWord (xs : List ℕ) : Type 0 where
  pub solid : All (λ x. is_blank x ≡ false) xs
  pub some : 0 < length xs

abbrev kept : List (List ℕ) → List (List ℕ)
kept parts = filter (λ word. nat_lt 0 (length word)) parts

kept-cons : (part : List ℕ) (parts : List (List ℕ)) → 0 < length part → kept (part ∷ parts) ≡ part ∷ kept parts
kept-cons part parts h = rw (lt-ltb 0 (length part) h) refl

words_cons : (word rest : List ℕ) → IsWord word → words_of (word ++ 32 ∷ rest) ≡ word ∷ words_of rest
unfolding words_of
words_cons word rest is =
    ap kept (slice_split_at is_blank word 32 rest is.solid refl) ∙ kept-cons word (slice_split is_blank rest) is.some

words_one : (word : List ℕ) → IsWord word → words_of word ≡ word ∷ []
unfolding words_of
words_one word is = ap kept (slice_split_none is_blank word is.solid) ∙ kept-cons word [] is.some

words_two : (a b : List ℕ) → IsWord a → IsWord b → words_of (a ++ 32 ∷ b) ≡ a ∷ b ∷ []
words_two a b ia ib = words_cons a b ia ∙ ap (λ l. a ∷ l) (words_one b ib)

words_three : (a b c : List ℕ) → IsWord a → IsWord b → IsWord c → words_of (a ++ 32 ∷ (b ++ 32 ∷ c)) ≡ a ∷ b ∷ c ∷ []
words_three a b c ia ib ic = words_cons a (b ++ 32 ∷ c) ia ∙ ap (λ l. a ∷ l) (words_two b c ib ic)

pub hex_word : (xs : List ℕ) → IsBytes xs → 0 < length xs → IsWord (hex_text xs)
hex_word xs h some =
    record { solid = no_blank xs h; some = some_hex xs some }

pub number_word : (n : ℕ) → n < 2 ^ 64 → IsWord (number_digits n)
number_word n h = record { solid = solid_number n; some = some_number n h }

pub word_32 : (n : ℕ) → n < 2 ^ 32 → IsWord (number_digits n)
word_32 n h = number_word n (omega (arith, h))

name : (xs : List ℕ) → list_all (λ x. not (is_blank x)) xs ≡ true → 0 < length xs → IsWord xs
name xs h some = record { solid = all_not is_blank xs h; some = some }

pub decimal_word : (n : ℕ) → n < 2 ^ 64 → IsWord (decimal n)
decimal_word n h = record { solid = solid_decimal n h; some = some_decimal n h }

-- ---- events

pub event_said : (e : Event) → IsTyped e → HasOctets e → parsed_line (event_words e) ≡ says (event e)
unfolding parsed_line
event_said (reads o) h some =
    ap words_form (words_two (codes "r") (number_digits o) (name (codes "r") refl (omega arith)) (word_32 o h))
    ∙ ap (λ v. with v (λ o. says (event (reads o)))) (read_32 o h)
event_said (writes o v) h some =
    let value = number_digits v in
    ap words_form (words_three (codes "w") (number_digits o) value (name (codes "w") refl (omega arith)) (word_32 o h.0)
    (word_32 v h.1))
    ∙ ap (λ n. with n (λ o. with (number 16 8 value) (λ v. says (event (writes o v))))) (read_32 o h.0)
    ∙ ap (λ n. with n (λ v. says (event (writes o v)))) (read_32 v h.1)
event_said (pokes a octets) h some =
    let addr = number_digits a in
    let digits = hex_text octets in
    ap (λ l. words_form (words_of (codes "poke " ++ l))) (append_assoc addr (codes " ") digits)
    ∙ ap words_form (words_three (codes "poke") addr digits (name (codes "poke") refl (omega arith)) (number_word a h.0)
    (hex_word octets h.1.0 some))
    ∙ ap (λ n. with n (λ a. with (octets_of digits) (λ octets. says (event (pokes a octets))))) (read_64 a h.0)
    ∙ ap (λ n. with n (λ octets. says (event (pokes a octets)))) (octets_of_hex octets h.1.0 some)
event_said (arrives octets) h some =
    ap words_form (words_two (codes "arrive") (hex_text octets) (name (codes "arrive") refl (omega arith))
    (hex_word octets h.0 some))
    ∙ ap (λ n. with n (λ octets. says (event (arrives octets)))) (octets_of_hex octets h.0 some)
event_said (links true) h some =
    ap words_form (words_two (codes "link") (codes "up") (name (codes "link") refl (omega arith))
    (name (codes "up") refl (omega arith)))
event_said (links false) h some =
    ap words_form (words_two (codes "link") (codes "down") (name (codes "link") refl (omega arith))
    (name (codes "down") refl (omega arith)))
event_said receives h some = ap words_form (words_one (codes "rx") (name (codes "rx") refl (omega arith)))
event_said transmits h some = ap words_form (words_one (codes "tx") (name (codes "tx") refl (omega arith)))

-- ---- steps back

counted : (n : ℕ) → 0 < n → n ≤ 65_536 → from_one_to 65_536 (Some n) ≡ Some n
counted n some few = grind (arith, nat_tests)

pub back_said : (n : ℕ) → 0 < n → n ≤ 65_536 → parsed_line (back_words n) ≡ says (back_by n)
unfolding parsed_line
back_said n some few =
    ap words_form (words_two (codes "back") (decimal n) (name (codes "back") refl (omega arith))
    (decimal_word n (omega (arith, few))))
    ∙ ap (λ v. with (from_one_to 65_536 v) (λ n. says (back_by n))) (decimal_read n (omega (arith, few)))
    ∙ ap (λ v. with v (λ n. says (back_by n))) (counted n some few)
