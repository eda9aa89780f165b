-- Texts that are written piece by piece.
use Rattle.std.proofs.Common.{◌≡◌, ℕ, ◌+◌, ◌-◌, ◌<◌, suc, Option, List, [], ◌∷◌, ◌++◌, refl, ap, ◌∙◌, arith, append_assoc}
use Rattle.std.specs.Prelude.{codes}
use Rattle.em_text.proofs.WritingLemmas.{WroteFront, WroteFront-none}
use Rattle.em_kept.specs.Source.{Source, place_of, placed, shown_at, shown_from}
use Rattle.em_kept.specs.Kept.{back_line, behind_text, expected, line_of, text_of, whole_text}
use Rattle.em_kept.specs.Head.{word_digits, words_from}
use Rattle.em_eeprom.specs.Eeprom.{word_at}

-- a line with its end is what is said, the answer, and the end
pub text_parts : (said answer : List ℕ) (source : Source)
    → text_of (line_of said answer source) ≡ said ++ behind_text answer source
text_parts said answer source =
    append_assoc said (expected answer ++ placed (place_of source)) (codes "\n")
    ∙ ap (λ l. said ++ l) (append_assoc (expected answer) (placed (place_of source)) (codes "\n"))

-- all are still to come
all_left : (n : ℕ) → n - 0 ≡ n
all_left n = omega arith

-- the next of so many
next : (at n : ℕ) → at < n → n - at ≡ suc (n - (at + 1))
next at n lt = omega arith

pub shown_start : (a : Option (List ℕ)) (name : List ℕ) (n : ℕ)
    → WroteFront a a (shown_from name 0 (n - 0)) (shown_from name 0 n)
shown_start a name n = rw (all_left n) (WroteFront-none a (shown_from name 0 n))

pub shown_next : (name : List ℕ) (at n : ℕ) → at < n
    → shown_from name at (n - at) ≡ (shown_at name at ∷ []) ++ shown_from name (at + 1) (n - (at + 1))
unfolding shown_from
shown_next name at n lt = rw (next at n lt) refl

pub shown_none : (name : List ℕ) (at n : ℕ) → n - at ≡ 0 → shown_from name at (n - at) ≡ []
unfolding shown_from
shown_none name at n e = rw e refl

pub words_start : (a : Option (List ℕ)) (words : List ℕ) (n : ℕ)
    → WroteFront a a (words_from words 0 (n - 0)) (words_from words 0 n)
words_start a words n = rw (all_left n) (WroteFront-none a (words_from words 0 n))

pub words_next : (words : List ℕ) (at n : ℕ) → at < n
    → words_from words at (n - at) ≡ word_digits (word_at words at) ++ words_from words (at + 1) (n - (at + 1))
unfolding words_from
words_next words at n lt = rw (next at n lt) refl

pub words_none : (words : List ℕ) (at n : ℕ) → n - at ≡ 0 → words_from words at (n - at) ≡ []
unfolding words_from
words_none words at n e = rw e refl

pub whole_start : (a : Option (List ℕ)) (source : Source) (n : ℕ)
    → WroteFront a a (whole_text (n - 0) source) (whole_text n source)
whole_start a source n = rw (all_left n) (WroteFront-none a (whole_text n source))

pub whole_next : (source : Source) (done n : ℕ) → done < n
    → whole_text (n - done) source ≡ text_of (back_line 65_536 65_536 source) ++ whole_text (n - (done + 1)) source
whole_next source done n lt = rw (next done n lt) refl

pub whole_none : (source : Source) (done n : ℕ) → n - done ≡ 0 → whole_text (n - done) source ≡ []
whole_none source done n e = rw e refl
