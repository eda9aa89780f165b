-- A source as it is written: no newline, no hash that begins a word, and no blank at either end.
use Rattle.std.proofs.Common.{◌≡◌, ℕ, ◌+◌, ◌-◌, ◌^◌, ◌<◌, ◌≤◌, Bool, true, false, List, ◌∷◌, ◌++◌}
use Rattle.std.proofs.Common.{length, drop, refl, sym, ap, ◌∙◌, arith, inl, inr, codes, length-append}
use Rattle.std.specs.Prelude.{◌==◌, ◌&&◌, ◌||◌, if◌then◌else◌, slice_index, decimal}
use Rattle.std.specs.List.{All}
use Rattle.std.proofs.lemmas.Bool.{cases_lt, ltb-false, ne_eqb, or_parts, or_from}
use Rattle.std.proofs.lemmas.List.{get_or_append_left, get_or-append-add}
use Rattle.std.proofs.lemmas.List.Elements.{All-append}
use Rattle.em_text.specs.Lines.{is_newline}
use Rattle.em_text.specs.Words.{is_blank}
use Rattle.em_line.specs.Parts.{begins_at, stands_at}
use Rattle.em_kept.specs.Digits.{number_digits}
use Rattle.em_kept.specs.Source.{Source, unknown, line, counter, IsPlain, is_control, is_replaced, last_of, place_of}
use Rattle.em_kept.specs.Source.{shown, shown_at}
use Rattle.em_kept.specs.ReadBack.{IsTypedSource}
use Rattle.em_kept.proofs.DigitLaws.{quiet_decimal, quiet_number, solid_decimal, some_decimal}
use Rattle.em_kept.proofs.EventWords.{number_word}
use Rattle.em_kept.proofs.ShownNames.{length_shown, shown_index, shown_plain}
use Rattle.em_kept.proofs.PartsOfLines.{BeginsNone, EndsWell, IsPlace, IsPlaceIn, Lacks, all_literal, all_quiet}
use Rattle.em_kept.proofs.PartsOfLines.{and_no, begins_none, ends_behind, is_quiet, no_hash, no_newline, solid_of, word_ends}

-- ---- octet by octet

-- what holds of a question mark and of each octet that is not replaced
by_replaced : (P : ℕ → Type 0) (name : List ℕ) (k : ℕ) → P 63
    → (is_replaced name k ≡ false → P (slice_index name k)) → P (shown_at name k)
by_replaced P name k mark other = by (is_replaced name k) refl where
  by : (b : Bool) → is_replaced name k ≡ b → P (if b then 63 else slice_index name k)
  by true e = mark
  by false e = other e

-- what is not replaced
above : (name : List ℕ) (k : ℕ) → is_replaced name k ≡ false → 32 ≤ slice_index name k
above name k e =
    ltb-false (slice_index name k) 32 (or_parts _ _ (or_parts (is_control (slice_index name k)) _ e).0).0

no_word : (name : List ℕ) (k : ℕ) → is_replaced name k ≡ false → stands_at 35 name k ≡ false
no_word name k e = (or_parts (stands_at 35 name k) _ (or_parts (is_control (slice_index name k)) _ e).1).0

no_space : (name : List ℕ) → is_replaced name 0 ≡ false → (slice_index name 0 == 32) ≡ false
no_space name e = (or_parts (stands_at 35 name 0) _ (or_parts (is_control (slice_index name 0)) _ e).1).1

blank_no : (x : ℕ) → 32 ≤ x → (x == 32) ≡ false → is_blank x ≡ false
blank_no x least space =
    or_from _ _ (or_from _ _ space (ne_eqb x 9 (λ e. omega (arith, least, e)))) (ne_eqb x 13 (λ e. omega (arith, least, e)))

line_at : (name : List ℕ) (k : ℕ) → is_newline (shown_at name k) ≡ false
line_at name k =
    by_replaced (λ x. is_newline x ≡ false) name k refl
    (λ e. ne_eqb (slice_index name k) 10 (λ is. omega (arith, above name k e, is)))

solid_at_first : (name : List ℕ) → is_blank (shown_at name 0) ≡ false
solid_at_first name =
    by_replaced (λ x. is_blank x ≡ false) name 0 refl
    (λ e. blank_no (slice_index name 0) (above name 0 e) (no_space name e))

solid_at : (name : List ℕ) (k : ℕ) → is_blank (slice_index name k) ≡ false → is_blank (shown_at name k) ≡ false
solid_at name k h = by_replaced (λ x. is_blank x ≡ false) name k refl (λ e. h)

-- ---- a name with what stands behind it

-- an octet of the name
front_index : (name rest : List ℕ) (k : ℕ) → k < length name → slice_index (shown name ++ rest) k ≡ shown_at name k
front_index name rest k lt =
    get_or_append_left (shown name) rest 0 k (omega (arith, lt, length_shown name)) ∙ shown_index name k 0 lt

-- a hash that stays begins no word of it
hash_in : (name rest : List ℕ) (k : ℕ) → k < length name → (slice_index name k == 35) ≡ true
    → stands_at 35 name k ≡ false → begins_at (shown name ++ rest) k ≡ false
hash_in name rest k lt is none =
    let begins : ((k == 0) || is_blank (slice_index name (k - 1))) ≡ false = rw is at none in
    let parts = or_parts (k == 0) (is_blank (slice_index name (k - 1))) begins in
    or_from (k == 0) _ parts.0
    (ap is_blank (front_index name rest (k - 1) (omega (arith, lt))) ∙ solid_at name (k - 1) parts.1)

hash_at : (name rest : List ℕ) (k : ℕ) → k < length name → stands_at 35 (shown name ++ rest) k ≡ false
hash_at name rest k lt =
    ap (λ x. (x == 35) && begins_at (shown name ++ rest) k) (front_index name rest k lt)
    ∙ by_replaced (λ x. ((x == 35) && begins_at (shown name ++ rest) k) ≡ false) name k refl
    (λ e. by (slice_index name k == 35) refl (no_word name k e))
  where
    by : (b : Bool) → (slice_index name k == 35) ≡ b → stands_at 35 name k ≡ false
        → (b && begins_at (shown name ++ rest) k) ≡ false
    by true is none = hash_in name rest k lt is none
    by false is none = refl

no_hash_in : (name rest : List ℕ) → Lacks 35 rest → BeginsNone 35 (shown name ++ rest)
no_hash_in name rest lacks k lt = elim (cases_lt k (length name)) [
  | inl within ↦ hash_at name rest k within
  | inr past ↦
      let n = k - length name in
      let long = length_shown name in
      let is : k ≡ length (shown name) + n = omega (arith, past, long) in
      let here : slice_index (shown name ++ rest) k ≡ slice_index rest n =
      ap (slice_index (shown name ++ rest)) is ∙ get_or-append-add (shown name) rest n 0 in
      and_no _ _ (ap (λ x. x == 35) here
      ∙ lacks n 0 (omega (arith, is, lt, length-append (shown name) rest)))
]

no_line_in : (name : List ℕ) → All (λ x. is_newline x ≡ false) (shown name)
no_line_in name k d lt =
    ap is_newline (shown_index name k d (omega (arith, lt, length_shown name))) ∙ line_at name k

first_in : (name rest : List ℕ) → 0 < length rest → is_blank (slice_index rest 0) ≡ false
    → is_blank (slice_index (shown name ++ rest) 0) ≡ false
first_in name rest some solid = elim (cases_lt 0 (length name)) [
  | inl has ↦ ap is_blank (front_index name rest 0 has) ∙ solid_at_first name
  | inr none ↦
      let empty : length (shown name) + 0 ≡ 0 = omega (arith, none, length_shown name) in
      ap (λ k. is_blank (slice_index (shown name ++ rest) k)) (sym empty)
      ∙ ap is_blank (get_or-append-add (shown name) rest 0 0) ∙ solid
]

-- ---- the place

line_is_place : (name : List ℕ) (number : ℕ) → number < 2 ^ 32 → IsPlace (shown name ++ (codes ":" ++ decimal number))
line_is_place name number h =
    let fits : number < 2 ^ 64 = omega (arith, h) in
    let rest = codes ":" ++ decimal number in
    let quiet : All (λ x. is_quiet x ≡ true) rest =
    All-append (λ x. is_quiet x ≡ true) (codes ":") (decimal number) (all_literal (codes ":") refl)
    (quiet_decimal number fits) in
    let ends : EndsWell (shown name ++ rest) =
    ends_behind (shown name) rest (ends_behind (codes ":") (decimal number)
    (word_ends (decimal number) (solid_decimal number fits) (some_decimal number fits))) in
    record {
      solid = record { some = ends.some; first = first_in name rest (omega arith) refl; last = ends.last };
      hash = no_hash_in name rest (all_quiet _ rest no_hash quiet);
      line = All-append (λ x. is_newline x ≡ false) (shown name) rest (no_line_in name)
          (all_quiet _ rest no_newline quiet);
    }

counter_is_place : (at : ℕ) → at < 2 ^ 64 → IsPlace (codes "0x" ++ number_digits at)
counter_is_place at h =
    let digits = number_digits at in
    let is = number_word at h in
    let quiet : All (λ x. is_quiet x ≡ true) (codes "0x" ++ digits) =
    All-append (λ x. is_quiet x ≡ true) (codes "0x") digits (all_literal (codes "0x") refl)
    (quiet_number at) in
    record {
      solid = solid_of 48 (120 ∷ digits) refl
          (ends_behind (codes "0x") digits (word_ends digits is.solid is.some));
      hash = begins_none 35 (codes "0x" ++ digits) (all_quiet _ (codes "0x" ++ digits) no_hash quiet);
      line = all_quiet _ (codes "0x" ++ digits) no_newline quiet;
    }

pub source_is_place : (source : Source) → IsTypedSource source → IsPlaceIn (place_of source)
source_is_place unknown h = tt
source_is_place (line file number) h = line_is_place (last_of file) number h
source_is_place (counter at) h = counter_is_place at h

-- ---- a plain name

pub plain_stays : (file : List ℕ) → IsPlain file → shown (last_of file) ≡ file
plain_stays file is =
    let none : length file - 4_096 ≡ 0 = omega (arith, is.short) in
    ap (λ n. shown (drop n file)) none ∙ shown_plain file is.shown
