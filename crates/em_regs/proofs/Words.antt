-- Words at offsets that differ, of which one is read or written.
use Rattle.std.proofs.Common.{◌≡◌, ◌≢◌, ℕ, ◌<◌, suc, zero, Bool, true, ◌&&◌, ◌==◌, List, [], ◌∷◌, length, Option, Some}
use Rattle.std.proofs.Common.{refl, sym, ap, ◌∙◌, arith, set, get_or, inl, inr}
use Rattle.std.specs.Prelude.{not, replicate, unwrap_or}
use Rattle.std.specs.Cmp.{nat_cmp_total}
use Rattle.std.specs.List.{zip}
use Rattle.std.specs.FinMap as map
use Rattle.std.specs.FinMap.{find, get-from_entries}
use Rattle.std.specs.Ordering.{nat_cmp}
use Rattle.std.proofs.lemmas.Bool.{and_parts}
use Rattle.std.proofs.lemmas.List.{ext_get_or}
use Rattle.std.proofs.lemmas.Bool.Decides.{nat_tests}
use Rattle.em_regs.specs.Storage.{Registers, words_at}
use Rattle.em_regs.specs.RegFile.{at, words_of}
use Rattle.em_regs.proofs.Entries.{tie, tied, untied, edit, get_entry, insert_entry}

-- a number is not in a list
abbrev pub lacks : ℕ → List ℕ → Bool
lacks x [] = true
lacks x (o ∷ os) = not (x == o) && lacks x os

-- each number of a list differs from those behind it
abbrev pub distinct : List ℕ → Bool
distinct [] = true
distinct (o ∷ os) = lacks o os && distinct os

differ : (x o : ℕ) → not (x == o) ≡ true → o ≢ x
differ x o h = grind (arith, nat_tests)

lacks-at : (x : ℕ) (os : List ℕ) (i : ℕ) → lacks x os ≡ true → i < length os → get_or os i 0 ≢ x
lacks-at x [] i h lt = absurd (omega arith)
lacks-at x (o ∷ os) zero h lt = differ x o (and_parts (not (x == o)) (lacks x os) h).0
lacks-at x (o ∷ os) (suc i) h lt = lacks-at x os i (and_parts (not (x == o)) (lacks x os) h).1 (omega arith)

-- numbers that differ are at other places than each other
pub apart-at : (os : List ℕ) (i j : ℕ) → distinct os ≡ true → i < length os → j < length os → i ≢ j
    → get_or os i 0 ≢ get_or os j 0
apart-at [] i j h l k other = absurd (omega arith)
apart-at (o ∷ os) zero zero h l k other = absurd (other refl)
apart-at (o ∷ os) zero (suc j) h l k other =
    λ same. lacks-at o os j (and_parts (lacks o os) (distinct os) h).0 (omega arith) (sym same)
apart-at (o ∷ os) (suc i) zero h l k other =
    lacks-at o os i (and_parts (lacks o os) (distinct os) h).0 (omega arith)
apart-at (o ∷ os) (suc i) (suc j) h l k other =
    apart-at os i j (and_parts (lacks o os) (distinct os) h).1 (omega arith) (omega arith) (λ same. other (ap suc same))

find-zip : (os ws : List ℕ) (i d : ℕ) → distinct os ≡ true → i < length os → i < length ws
    → find nat_cmp (get_or os i 0) (zip os ws) ≡ Some (get_or ws i d)
find-zip [] ws i d apart h l = absurd (omega arith)
find-zip (o ∷ os) [] i d apart h l = absurd (omega arith)
find-zip (o ∷ os) (w ∷ ws) zero d apart h l = rw (tied o o refl) refl
find-zip (o ∷ os) (w ∷ ws) (suc i) d apart h l =
    let parts = and_parts (lacks o os) (distinct os) apart in
    let other : get_or os i 0 ≢ o = lacks-at o os i parts.0 (omega arith) in
    rw (untied (get_or os i 0) o other) (find-zip os ws i d parts.1 (omega arith) (omega arith))

edit-zip : (os ws : List ℕ) (i v : ℕ) → distinct os ≡ true → i < length os → i < length ws
    → edit (get_or os i 0) v (zip os ws) ≡ zip os (set ws i v)
edit-zip [] ws i v apart h l = absurd (omega arith)
edit-zip (o ∷ os) [] i v apart h l = absurd (omega arith)
edit-zip (o ∷ os) (w ∷ ws) zero v apart h l = rw (tied o o refl) refl
edit-zip (o ∷ os) (w ∷ ws) (suc i) v apart h l =
    let parts = and_parts (lacks o os) (distinct os) apart in
    let other : get_or os i 0 ≢ o = lacks-at o os i parts.0 (omega arith) in
    rw (untied (get_or os i 0) o other)
    (ap (λ es. (o, w) ∷ es) (edit-zip os ws i v parts.1 (omega arith) (omega arith)))

-- place i among the offsets is that of o, and the words at the offsets are the map
pub record IsPlace (os ws : List ℕ) (m : Registers) (i o : ℕ) : Type 0 where
  pub differ : distinct os ≡ true
  pub offset : i < length os
  pub word : i < length ws
  pub place : get_or os i 0 ≡ o
  pub words : words_at os ws ≡ m

-- the word at a place is the map's number at the place's offset
pub word_is : {os ws : List ℕ} {m : Registers} {i o : ℕ} → IsPlace os ws m i o → map.get m o ≡ Some (get_or ws i 0)
unfolding words_at
word_is {os} {ws} {m} {i} {o} p =
    get_entry (zip os ws) m o (get_or ws i 0) p.words
    (ap (λ k. find nat_cmp k (zip os ws)) (sym p.place) ∙ find-zip os ws i 0 p.differ p.offset p.word)

-- writing a word is writing the map at its offset
pub word_set : {os ws : List ℕ} {m : Registers} {i o : ℕ} (v : ℕ) → IsPlace os ws m i o
    → words_at os (set ws i v) ≡ map.insert m o v
unfolding words_at
word_set {os} {ws} {m} {i} {o} v p =
    insert_entry (zip os ws) (zip os (set ws i v)) m o v (get_or ws i 0) p.words
    (ap (λ k. find nat_cmp k (zip os ws)) (sym p.place) ∙ find-zip os ws i 0 p.differ p.offset p.word)
    (sym (edit-zip os ws i v p.differ p.offset p.word) ∙ ap (λ k. edit k v (zip os ws)) p.place)

-- ---- all words
length-words_of : (os : List ℕ) (m : Registers) → length (words_of os m) ≡ length os
length-words_of [] m = refl
length-words_of (o ∷ os) m = ap suc (length-words_of os m)

get-words_of : (os : List ℕ) (m : Registers) (i : ℕ) → i < length os
    → get_or (words_of os m) i 0 ≡ at m (get_or os i 0)
get-words_of [] m i lt = absurd (omega arith)
get-words_of (o ∷ os) m zero lt = refl
get-words_of (o ∷ os) m (suc i) lt = get-words_of os m i (omega arith)

-- the words at offsets that differ are those that the map was made of
pub words_are : (os ws : List ℕ) (m : Registers) → distinct os ≡ true → length ws ≡ length os → words_at os ws ≡ m
    → ws ≡ words_of os m
words_are os ws m apart same e =
    ext_get_or 0 ws (words_of os m) (same ∙ sym (length-words_of os m))
    (λ i lt.
    let below : i < length os = omega arith in
    let place : IsPlace os ws m i (get_or os i 0)
    = record { differ = apart; offset = below; word = lt; place = refl; words = e } in
    sym (get-words_of os m i below ∙ ap (λ (found : Option ℕ). unwrap_or found 0) (word_is place)))

-- ---- words that are all zero
abbrev pub zeros : ℕ → List ℕ
zeros n = replicate n 0

abbrev number : Option ℕ → ℕ
number found = unwrap_or found 0

find-zeros : (os : List ℕ) (n o : ℕ) → number (find nat_cmp o (zip os (zeros n))) ≡ 0
find-zeros [] n o = refl
find-zeros (p ∷ os) zero o = refl
find-zeros (p ∷ os) (suc n) o = elim (tie o p) [
  | inl t ↦ rw t.0 refl
  | inr t ↦ rw t.0 (find-zeros os n o)
]

pub at-zeros : (os : List ℕ) (n o : ℕ) → at (words_at os (zeros n)) o ≡ 0
unfolding words_at
at-zeros os n o = ap number (get-from_entries nat_cmp_total (zip os (zeros n)) o) ∙ find-zeros os n o
