-- A table of the values of digits, and one of the digits of octets.
use Rattle.std.proofs.Common.{◌≡◌, ℕ, zero, suc, ◌+◌, ◌<◌, Bool, true, List, [], ◌∷◌, length, get_or, ap, ◌∙◌, sym}
use Rattle.std.proofs.Common.{◌≤◌, arith, add-zero, inl, inr, refl, map, replicate, not, false, Fits, w8}
use Rattle.std.specs.Prelude.{◌==◌, ◌&&◌, ◌*◌, ◌/◌, ◌%◌, slice_index, nat_lt, if◌then◌else◌}
use Rattle.std.specs.Char.{digit_value}
use Rattle.std.proofs.lemmas.Bool.{and_parts, cases_eq, eqb-true, agree_below, agree_below_at, not-true}
use Rattle.std.proofs.lemmas.List.{get_or_default, length-map}
use Rattle.std.proofs.lemmas.List.Sums.{prefix_len_passes}
use Rattle.std.proofs.lemmas.Simd.{zip2_of_maps, splat_is_map, tops_compared, length-chunk, get_or-chunk}
use Rattle.std.proofs.lemmas.Simd.{leading_from_mask_l, map-map, zip2_splat}
use Rattle.std.proofs.Math.ListN.{get_or-map}
use Rattle.std.specs.Simd.Lanes.{zip2, sel_l, mask_l, top, chunk}
use Rattle.hex.specs.Hex.{upper_digits}

-- whether each entry is the value of its place, the first of them of the place i
abbrev pub is_table_from : ℕ → List ℕ → Bool
is_table_from i [] = true
is_table_from i (x ∷ xs) = x == digit_value i && is_table_from (i + 1) xs

table_from : (i : ℕ) (xs : List ℕ) (k : ℕ) → is_table_from i xs ≡ true → k < length xs
    → get_or xs k 0 ≡ digit_value (i + k)
table_from i [] k h lt = absurd (omega arith)
table_from i (x ∷ xs) zero h lt = eqb-true x (digit_value i) (and_parts _ _ h).0 ∙ ap digit_value (sym (add-zero i))
table_from i (x ∷ xs) (suc k) h lt =
    let next : i + 1 + k ≡ i + suc k = omega arith in
    table_from (i + 1) xs k (and_parts _ _ h).1 (omega arith) ∙ ap digit_value next

-- what stands in such a table of all octets
pub table_at : (xs : List ℕ) (octet : ℕ) → is_table_from 0 xs ≡ true → length xs ≡ 256 → octet < 256
    → get_or xs octet 0 ≡ digit_value octet
table_at xs octet h len lt =
    let same : 0 + octet ≡ octet = omega arith in
    table_from 0 xs octet h (omega arith) ∙ ap digit_value same

-- ---- two digits for each octet

-- whether two entries are the digits of an octet
abbrev pub is_pair : List ℕ → ℕ → Bool
is_pair xs octet =
    get_or xs (2 * octet) 0 == slice_index upper_digits (octet / 16)
    && get_or xs (2 * octet + 1) 0 == slice_index upper_digits (octet % 16)

-- so it is of each octet below n
abbrev pub are_pairs : List ℕ → ℕ → Bool
are_pairs xs zero = true
are_pairs xs (suc n) = is_pair xs n && are_pairs xs n

is_pair_below : (xs : List ℕ) (n octet : ℕ) → are_pairs xs n ≡ true → octet < n → is_pair xs octet ≡ true
is_pair_below xs zero octet h lt = absurd (omega arith)
is_pair_below xs (suc n) octet h lt = elim (cases_eq octet n) [
  | inl is ↦ ap (is_pair xs) is ∙ (and_parts (is_pair xs n) (are_pairs xs n) h).0
  | inr other ↦ is_pair_below xs n octet (and_parts (is_pair xs n) (are_pairs xs n) h).1 (omega arith)
]

-- what stands in such a table of all octets
pub pair_at : (xs : List ℕ) (octet : ℕ) → are_pairs xs 256 ≡ true → octet < 256
    → get_or xs (2 * octet) 0 ∷ get_or xs (2 * octet + 1) 0 ∷ []
    ≡ slice_index upper_digits (octet / 16) ∷ slice_index upper_digits (octet % 16) ∷ []
pair_at xs octet h lt =
    let two = and_parts _ _ (is_pair_below xs 256 octet h lt) in
    let high = eqb-true (get_or xs (2 * octet) 0) (slice_index upper_digits (octet / 16)) two.0 in
    let low = eqb-true (get_or xs (2 * octet + 1) 0) (slice_index upper_digits (octet % 16)) two.1 in
    λ i. high i ∷ low i ∷ []

-- ---- the values of many octets at once, each of them computed from the lane of vs in its place

-- a vector and a number for all its lanes
pub with_splat : {Z : Type 0} (f : ℕ → ℕ → Z) (h : ℕ → ℕ) (vs : List ℕ) (n y : ℕ) {xs : List ℕ} → length vs ≡ n
    → xs ≡ map h vs → zip2 f xs (replicate n y) ≡ map (λ v. f (h v) y) vs
with_splat f h vs n y long xs = zip2_of_maps f h (λ _. y) vs xs (splat_is_map vs n y long)

sel_of_maps : (p : ℕ → Bool) (f g : ℕ → ℕ) (vs : List ℕ)
    → sel_l (map p vs) (map f vs) (map g vs) ≡ map (λ v. if p v then f v else g v) vs
sel_of_maps p f g [] = refl
sel_of_maps p f g (v ∷ vs) = ap (λ l. (if p v then f v else g v) ∷ l) (sel_of_maps p f g vs)

-- a choice between two vectors, where the lanes of one are below a number
pub where_below : (f g h : ℕ → ℕ) (vs : List ℕ) (n y : ℕ) {ts xs ys : List ℕ} → length vs ≡ n
    → ts ≡ map f vs → xs ≡ map g vs → ys ≡ map h vs
    → sel_l (map (top 7) (zip2 (λ a b. if nat_lt a b then 255 else 0) ts (replicate n y))) xs ys
    ≡ map (λ v. if nat_lt (f v) y then g v else h v) vs
where_below f g h vs n y {ts = ts} long test then_is else_is =
    let below = tops_compared w8 nat_lt ts (replicate n y) ∙ with_splat nat_lt f vs n y long test in
    (λ i. sel_l (below i) (then_is i) (else_is i)) ∙ sel_of_maps (λ v. nat_lt (f v) y) g h vs

-- the lanes of a load, where they are computed by a function that a table has for each octet
pub lanes_are : (f g : ℕ → ℕ) (text : List ℕ) (from n : ℕ) (lanes : List ℕ) → from + n ≤ length text
    → ((k : ℕ) → Fits w8 (get_or text k 0)) → lanes ≡ map f (chunk from n text)
    → agree_below (λ octet. f octet == g octet) (λ _. true) 256 ≡ true
    → (i : ℕ) → i < n → slice_index lanes i ≡ g (slice_index text (from + i))
lanes_are f g text from n lanes room fits are same i lt =
    let v = chunk from n text in
    let octet = get_or text (from + i) 0 in
    let long : length (map f v) ≡ n = length-map v f ∙ length-chunk from n text room in
    ap (λ l. get_or l i 0) are
    ∙ get_or_default (map f v) i 0 (f 0) (omega (arith, long, lt))
    ∙ get_or-map f v i 0
    ∙ ap f (get_or-chunk from n text i 0 lt)
    ∙ eqb-true (f octet) (g octet) (agree_below_at (λ x. f x == g x) (λ _. true) 256 octet same (fits (from + i)).fits)

-- the same where each lane is first put through an operation with one number
pub lanes_are_of : (op : ℕ → ℕ → ℕ) (y : ℕ) (f g : ℕ → ℕ) (text : List ℕ) (from n : ℕ) (lanes : List ℕ)
    → from + n ≤ length text → ((k : ℕ) → Fits w8 (get_or text k 0))
    → lanes ≡ map f (zip2 op (chunk from n text) (replicate n y))
    → agree_below (λ octet. f (op octet y) == g octet) (λ _. true) 256 ≡ true
    → (i : ℕ) → i < n → slice_index lanes i ≡ g (slice_index text (from + i))
lanes_are_of op y f g text from n lanes room fits are same =
    let v = chunk from n text in
    let through = zip2_splat op v n y (length-chunk from n text room) in
    lanes_are (λ octet. f (op octet y)) g text from n lanes room fits
    (are ∙ ap (map f) through ∙ map-map f (λ octet. op octet y) v) same

-- where no bit of a mask is set, no lane passes
pub none_passes : (p : ℕ → Bool) (xs : List ℕ) → mask_l (map p xs) ≡ 0 → (k : ℕ) → k < length xs
    → p (get_or xs k 0) ≡ false
none_passes p xs none k lt =
    not-true _ (prefix_len_passes (λ x. not (p x)) xs k 0 (omega (arith, leading_from_mask_l p xs none, lt)))
