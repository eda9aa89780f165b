-- Names of files, octet by octet as they are written.
use Rattle.std.proofs.Common.{◌≡◌, ℕ, Bool, ◌+◌, ◌<◌, true, false, List, length, get_or, sym, ap, ◌∙◌, arith}
use Rattle.std.proofs.Common.{append_assoc, codes, refl, ◌++◌}
use Rattle.std.specs.Prelude.{decimal, if◌then◌else◌, not, slice_index, ◌==◌, ◌&&◌, ◌||◌}
use Rattle.std.specs.List.{list_all, range_with_len}
use Rattle.std.proofs.lemmas.Bool.{not-true, or_parts}
use Rattle.std.proofs.lemmas.List.{ext_get_or}
use Rattle.std.proofs.lemmas.List.FromFn.{get_or-map-range_with_len, get_or-range_with_len, length-map-range_with_len}
use Rattle.std.proofs.lemmas.List.FromFn.{length-range_with_len}
use Rattle.std.proofs.lemmas.List.Sums.{AllPass-from_list_all}
use Rattle.em_kept.specs.Source.{end_text, is_control, is_replaced, is_solid, last_of, line, place_text, shown, shown_at, shown_from}

pub length_shown : (name : List ℕ) → length (shown name) ≡ length name
unfolding shown_from
length_shown name = length-map-range_with_len (shown_at name) 0 (length name)

pub shown_index : (name : List ℕ) (k d : ℕ) → k < length name → get_or (shown name) k d ≡ shown_at name k
unfolding shown_from
shown_index name k d lt = get_or-map-range_with_len (shown_at name) 0 (length name) k k d lt (omega arith)

-- where nothing is replaced, a name is written as it is
pub shown_plain : (name : List ℕ) → ((k : ℕ) → k < length name → is_replaced name k ≡ false) → shown name ≡ name
shown_plain name h =
    ext_get_or 0 (shown name) name (length_shown name)
    (λ k lt. let within : k < length name = omega (arith, lt, length_shown name) in
    shown_index name k 0 within ∙ ap (λ b. if b then 63 else slice_index name k) (h k within))

-- such an octet is replaced at no place
solid_stays : (name : List ℕ) (at : ℕ) → is_solid (slice_index name at) ≡ true → is_replaced name at ≡ false
solid_stays name at h =
    let x = slice_index name at in
    let none : (is_control x ≡ false) × ((x == 32 || x == 35) ≡ false) = or_parts _ _ (not-true _ h) in
    let no_blank : ((x == 32) ≡ false) × ((x == 35) ≡ false) = or_parts _ _ none.1 in
    rw (none.0, no_blank.0, no_blank.1) (by (at == 0))
  where
    by : (b : Bool) → (b && false) ≡ false
    by true = refl
    by false = refl

pub solid_name : (name : List ℕ) → list_all is_solid name ≡ true → shown name ≡ name
solid_name name h = shown_plain name (λ k lt. solid_stays name k (AllPass-from_list_all is_solid name h k 0 lt))

-- the place of a line of a file, and the end of the line
pub place_made : (file : List ℕ) (number : ℕ) → end_text (line file number) ≡ place_text file number
place_made file number =
    ap (λ l. codes " @" ++ l) (append_assoc (shown (last_of file)) (codes ":" ++ decimal number) (codes "\n"))
