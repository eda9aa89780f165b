-- Octets of one place, and those of another memory that are put in range by range.
use Rattle.std.proofs.Common.{◌≡◌, ◌∙◌, ℕ, ◌+◌, ◌-◌, ◌≤◌, ◌<◌, ◌⊎◌, inl, inr, List, [], ◌∷◌, ◌++◌, length, take, drop}
use Rattle.std.proofs.Common.{get_or, nat_lt, Bool, true, false, refl, sym, ap, arith, subst}
use Rattle.std.specs.Prelude.{All, ◌||◌}
use Rattle.std.proofs.lemmas.List.{ext_get_or, get_or_append_left, get_or-append_right, get_or-take, get_or-drop}
use Rattle.std.proofs.lemmas.List.{length-take-le, take-append-drop}
use Rattle.std.proofs.lemmas.List.Elements.{All-cons, All-head, All-nil, All-tail, All-take, All-weaker}
use Rattle.std.proofs.lemmas.Bool.{cases_lt, false≢true}
use Rattle.std.proofs.lemmas.Bool.Decides.{nat_tests}
use Rattle.em_mem.specs.declared.needs.Range.{Range}
use Rattle.em_mem.specs.Memory.{EndsIn, LiesIn, leaves, part, put}
use Rattle.em_mem.specs.Needs.{AgreeOn, AreHeld, with_octets_of}
use Rattle.em_mem.proofs.PutLaws.{length-part, length-put, part-put}

-- place i is one of the n from a on
abbrev pub IsIn : ℕ → ℕ → ℕ → Type 0
IsIn i a n = (a ≤ i) × (i < a + n)

abbrev pub IsOut : ℕ → ℕ → ℕ → Type 0
IsOut i a n = (i < a) ⊎ (a + n ≤ i)

pub in_or_out : (i a n : ℕ) → IsIn i a n ⊎ IsOut i a n
in_or_out i a n = elim (cases_lt i a) [
  | inl before ↦ inr (inl before)
  | inr from ↦ elim (cases_lt i (a + n)) [ inl inside ↦ inl (from, inside) | inr behind ↦ inr (inr behind) ]
]

-- an octet of a part
pub get_or-part : (m : List ℕ) (a n i : ℕ) → IsIn i a n → get_or (part m a n) (i - a) 0 ≡ get_or m i 0
get_or-part m a n i is =
    get_or-take n (drop a m) (i - a) 0 (omega (arith, is.0, is.1))
    ∙ get_or-drop a m (i - a) 0
    ∙ ap (λ (k : ℕ). get_or m k 0) (omega (arith, is.0))

-- an octet that is written, and one that is not
pub get_or-put_in : (m : List ℕ) (a : ℕ) (d : List ℕ) (i : ℕ) → EndsIn m a (length d) → IsIn i a (length d) →
    get_or (put m a d) i 0 ≡ get_or d (i - a) 0
get_or-put_in m a d i held is =
    let front : length (take a m) ≡ a = length-take-le a m (omega (arith, held)) in
    let rest : List ℕ = drop (a + length d) m in
    get_or-append_right (take a m) (d ++ rest) a i 0 front is.0
    ∙ get_or_append_left d rest 0 (i - a) (omega (arith, is.0, is.1))

pub get_or-put_out : (m : List ℕ) (a : ℕ) (d : List ℕ) (i : ℕ) → EndsIn m a (length d) → IsOut i a (length d) →
    get_or (put m a d) i 0 ≡ get_or m i 0
get_or-put_out m a d i held (inl before) =
    let front : length (take a m) ≡ a = length-take-le a m (omega (arith, held)) in
    get_or_append_left (take a m) (d ++ drop (a + length d) m) 0 i (omega (arith, front, before))
    ∙ get_or-take a m i 0 before
get_or-put_out m a d i held (inr behind) =
    let front : length (take a m) ≡ a = length-take-le a m (omega (arith, held)) in
    let rest : List ℕ = drop (a + length d) m in
    get_or-append_right (take a m) (d ++ rest) a i 0 front (omega (arith, behind))
    ∙ get_or-append_right d rest (length d) (i - a) 0 refl (omega (arith, behind))
    ∙ get_or-drop (a + length d) m (i - a - length d) 0
    ∙ ap (λ (k : ℕ). get_or m k 0) (omega (arith, behind))

or_first : (a b : Bool) → (a || b) ≡ false → a ≡ false
or_first true b is = is
or_first false b is = refl

or_second : (a b : Bool) → (a || b) ≡ false → b ≡ false
or_second true b is = absurd (false≢true (sym is))
or_second false b is = is

-- a test that a number is less fails
pub held_by_test : (size past : ℕ) → nat_lt size past ≡ false → past ≤ size
held_by_test size past is = grind (arith, nat_tests)

-- a range that does not leave memory lies in it
pub lies_by_test : (base : ℕ) (m : List ℕ) (a n : ℕ) → leaves base m a n ≡ false → LiesIn base m a n
lies_by_test base m a n is = record {
  from = held_by_test a base (or_first (nat_lt a base) (nat_lt (length m) (a + n)) is);
  to = held_by_test (length m) (a + n) (or_second (nat_lt a base) (nat_lt (length m) (a + n)) is);
}

-- and the other way round
pub stays_in : (base : ℕ) (m : List ℕ) (a n : ℕ) → LiesIn base m a n → leaves base m a n ≡ false
stays_in base m a n held =
    let from : base ≤ a = held.from in
    let to : a + n ≤ length m = held.to in
    let before : nat_lt a base ≡ false = grind (arith, nat_tests) in
    let past : nat_lt (length m) (a + n) ≡ false = grind (arith, nat_tests) in
    λ i. before i || past i

leaves_if : (base : ℕ) (m : List ℕ) (a n : ℕ) (b : Bool) → leaves base m a n ≡ b → (LiesIn base m a n → ⊥) → b ≡ true
leaves_if base m a n true is out = refl
leaves_if base m a n false is out = absurd (out (lies_by_test base m a n is))

-- a range that does not lie in memory leaves it
pub leaves_by : (base : ℕ) (m : List ℕ) (a n : ℕ) → (LiesIn base m a n → ⊥) → leaves base m a n ≡ true
leaves_by base m a n out = leaves_if base m a n (leaves base m a n) refl out

-- so does one that ends past its end
pub leaves_past : (base : ℕ) (m : List ℕ) (a n : ℕ) → length m < a + n → leaves base m a n ≡ true
leaves_past base m a n past = leaves_by base m a n (λ held. absurd (omega (arith, past, held.to)))

-- memories that agree on some ranges agree on the first of them
pub agree_first : (m n : List ℕ) (ranges : List Range) → AgreeOn m n ranges → AgreeOn m n (take 1 ranges)
agree_first m n ranges agree = record {
  size = agree.size;
  octets = All-take (λ r. part m r.at r.len ≡ part n r.at r.len) 1 ranges agree.octets;
}

-- no range has place i
abbrev pub IsBeside : ℕ → List Range → Type 0
IsBeside i [] = Unit {0}
IsBeside i (r ∷ rs) = IsOut i r.at r.len × IsBeside i rs

-- the ranges that have octets end in a memory
abbrev pub EndIn : List ℕ → List Range → Type 0
EndIn m ranges = All (λ r. 0 < r.len → EndsIn m r.at r.len) ranges

ends_in : (base : ℕ) (m : List ℕ) (rs : List Range) → AreHeld base m rs → EndIn m rs
ends_in base m rs held =
    All-weaker (λ r. 0 < r.len → LiesIn base m r.at r.len) (λ r. 0 < r.len → EndsIn m r.at r.len)
    (λ r here some. (here some).to) rs held

-- no octets are put in
put_none : (m n : List ℕ) (a k : ℕ) → k ≡ 0 → put m a (part n a k) ≡ m
put_none m n a k none =
    let at : a + 0 ≡ a = omega arith in
    ap (λ (j : ℕ). put m a (part n a j)) none
    ∙ ap (λ (j : ℕ). take a m ++ drop j m) at
    ∙ take-append-drop a m

-- a memory that has n's octets in the ranges, and m's elsewhere, is m with n's octets
pub with_octets_is : (rs : List Range) (m n o : List ℕ) → length m ≡ length o → length n ≡ length o → EndIn o rs
    → All (λ r. part o r.at r.len ≡ part n r.at r.len) rs
    → ((i : ℕ) → IsBeside i rs → get_or m i 0 ≡ get_or o i 0) → with_octets_of m n rs ≡ o
with_octets_is [] m n o size other held inside beside = ext_get_or 0 m o size (λ i l. beside i tt)
with_octets_is (r ∷ rs) m n o size other held inside beside =
    let d : List ℕ = part n r.at r.len in
    let rest_held = All-tail (λ x. 0 < x.len → EndsIn o x.at x.len) r rs held in
    let rest_inside = All-tail (λ x. part o x.at x.len ≡ part n x.at x.len) r rs inside in
    elim (cases_lt 0 r.len) [
      | inl some ↦
          let here : EndsIn o r.at r.len = All-head (λ x. 0 < x.len → EndsIn o x.at x.len) r rs held some in
          let same : part o r.at r.len ≡ d = All-head (λ x. part o x.at x.len ≡ part n x.at x.len) r rs inside in
          let count : length d ≡ r.len = length-part n r.at r.len (omega (arith, here, other)) in
          let held_d : EndsIn m r.at (length d) = omega (arith, count, here, size) in
          with_octets_is rs (put m r.at d) n o (length-put m r.at d held_d ∙ size) other rest_held rest_inside
          (
          λ i rest. elim (in_or_out i r.at r.len) [
            | inl is ↦
                get_or-put_in m r.at d i held_d (is.0, omega (arith, is.1, count))
                ∙ ap (λ (x : List ℕ). get_or x (i - r.at) 0) (sym same)
                ∙ get_or-part o r.at r.len i is
            | inr out ↦
                get_or-put_out m r.at d i held_d (subst (IsOut i r.at) (sym count) out) ∙ beside i (out, rest)
          ]
          )
      | inr least ↦
          let none : r.len ≡ 0 = omega (arith, least) in
          ap (λ (x : List ℕ). with_octets_of x n rs) (put_none m n r.at r.len none)
          ∙ with_octets_is rs m n o size other rest_held rest_inside
          (
          λ i rest. elim (in_or_out i r.at r.len) [
            | inl is ↦ absurd (omega (arith, is.0, is.1, none))
            | inr out ↦ beside i (out, rest)
          ]
          )
    ]

-- two memories have the same part, where each octet of it is the same
pub part_same : (m n : List ℕ) (a k : ℕ) → EndsIn m a k → EndsIn n a k
    → ((i : ℕ) → IsIn i a k → get_or m i 0 ≡ get_or n i 0) → part m a k ≡ part n a k
part_same m n a k held_m held_n same =
    let count_m = length-part m a k held_m in
    ext_get_or 0 (part m a k) (part n a k) (count_m ∙ sym (length-part n a k held_n))
    (
    λ j l.
    let is : IsIn (a + j) a k = (omega arith, omega (arith, l, count_m)) in
    let place : j ≡ a + j - a = omega arith in
    ap (λ (x : ℕ). get_or (part m a k) x 0) place
    ∙ get_or-part m a k (a + j) is
    ∙ same (a + j) is
    ∙ sym (get_or-part n a k (a + j) is)
    ∙ ap (λ (x : ℕ). get_or (part n a k) x 0) (sym place)
    )

-- one write is taken out into another memory
pub one_taken_out : (m n : List ℕ) (a : ℕ) (d : List ℕ) → EndsIn n a (length d)
    → put m a (part (put n a d) a (length d)) ≡ put m a d
one_taken_out m n a d held = ap (put m a) (part-put n a d held)

-- it holds of two
pub all_two : {X : Type 0} (P : X → Type 0) (x y : X) → P x → P y → All P (x ∷ y ∷ [])
all_two P x y p_x p_y = All-cons P x (y ∷ []) p_x (All-cons P y [] p_y (All-nil P))

-- two writes, of which the second may lie over the first
module _ (m n : List ℕ) (a : ℕ) (d : List ℕ) (b : ℕ) (e : List ℕ) (k : ℕ) (size : length m ≡ length n)
    (count : length d ≡ k) (held_a : EndsIn n a k) (held_b : EndsIn n b (length e)) where
  abbrev first : List ℕ → List ℕ
  first x = put x a d

  abbrev both : List ℕ → List ℕ
  both x = put (first x) b e

  fits : (x : List ℕ) → length x ≡ length n → EndsIn x a (length d)
  fits x is = omega (arith, is, count, held_a)

  length-first : (x : List ℕ) → length x ≡ length n → length (first x) ≡ length n
  length-first x is = length-put x a d (fits x is) ∙ is

  fits_b : (x : List ℕ) → length x ≡ length n → EndsIn (first x) b (length e)
  fits_b x is = omega (arith, length-first x is, held_b)

  length-both : (x : List ℕ) → length x ≡ length n → length (both x) ≡ length n
  length-both x is = length-put (first x) b e (fits_b x is) ∙ length-first x is

  -- an octet of the first write, and what the second one made of it
  at_first : (x : List ℕ) → length x ≡ length n → (i : ℕ) → IsIn i a k → IsOut i b (length e)
      → get_or (both x) i 0 ≡ get_or d (i - a) 0
  at_first x is i inside out =
      get_or-put_out (first x) b e i (fits_b x is) out
      ∙ get_or-put_in x a d i (fits x is) (inside.0, omega (arith, inside.1, count))

  same_in_first : (i : ℕ) → IsIn i a k → get_or (both m) i 0 ≡ get_or (both n) i 0
  same_in_first i inside = elim (in_or_out i b (length e)) [
    | inl over ↦
        get_or-put_in (first m) b e i (fits_b m size) over
        ∙ sym (get_or-put_in (first n) b e i (fits_b n refl) over)
    | inr out ↦ at_first m size i inside out ∙ sym (at_first n refl i inside out)
  ]

  beside_both : (i : ℕ) → IsOut i a k → IsOut i b (length e) → get_or m i 0 ≡ get_or (both m) i 0
  beside_both i out_a out_b =
      sym (get_or-put_out m a d i (fits m size) (subst (IsOut i a) (sym count) out_a))
      ∙ sym (get_or-put_out (first m) b e i (fits_b m size) out_b)

  abbrev ranges : List Range
  ranges = record { at = a; len = k } ∷ record { at = b; len = length e } ∷ []

  held : EndIn (both m) ranges
  held =
      let size_m = length-both m size in
      all_two (λ r. 0 < r.len → EndsIn (both m) r.at r.len) (record { at = a; len = k })
      (record { at = b; len = length e })
      (λ some. omega (arith, size_m, held_a)) (λ some. omega (arith, size_m, held_b))

  same : All (λ r. part (both m) r.at r.len ≡ part (both n) r.at r.len) ranges
  same =
      let held_in : (x : List ℕ) → length x ≡ length n → EndsIn (both x) a k
      = λ x is. omega (arith, length-both x is, held_a) in
      all_two (λ r. part (both m) r.at r.len ≡ part (both n) r.at r.len) (record { at = a; len = k })
      (record { at = b; len = length e })
      (part_same (both m) (both n) a k (held_in m size) (held_in n refl) same_in_first)
      (part-put (first m) b e (fits_b m size) ∙ sym (part-put (first n) b e (fits_b n refl)))

  pub two_taken_out : with_octets_of m (both n) ranges ≡ both m
  two_taken_out =
      with_octets_is ranges m (both n) (both m) (size ∙ sym (length-both m size))
      (length-both n refl ∙ sym (length-both m size)) held same (λ i out. beside_both i out.0 out.1.0)

-- ---- back: where n had m's octets in the ranges, they take back what was taken out into m
-- a range's octets are put in
pub length-one : (m n : List ℕ) (a k : ℕ) → length n ≡ length m → (0 < k → EndsIn m a k)
    → length (put m a (part n a k)) ≡ length m
length-one m n a k size held = elim (cases_lt 0 k) [
  | inl some ↦
      let count : length (part n a k) ≡ k = length-part n a k (omega (arith, held some, size)) in
      length-put m a (part n a k) (omega (arith, held some, count))
  | inr least ↦ ap length (put_none m n a k (omega (arith, least)))
]

get_or-one : (m n : List ℕ) (a k i : ℕ) → length n ≡ length m → (0 < k → EndsIn m a k) → IsOut i a k
    → get_or (put m a (part n a k)) i 0 ≡ get_or m i 0
get_or-one m n a k i size held out = elim (cases_lt 0 k) [
  | inl some ↦
      let count : length (part n a k) ≡ k = length-part n a k (omega (arith, held some, size)) in
      get_or-put_out m a (part n a k) i (omega (arith, held some, count)) (subst (IsOut i a) (sym count) out)
  | inr least ↦ ap (λ (x : List ℕ). get_or x i 0) (put_none m n a k (omega (arith, least)))
]

-- the ranges end in a memory of the same size
same_end : (m n : List ℕ) (rs : List Range) → length n ≡ length m → EndIn m rs → EndIn n rs
same_end m n rs size held =
    All-weaker (λ x. 0 < x.len → EndsIn m x.at x.len) (λ x. 0 < x.len → EndsIn n x.at x.len)
    (λ x h some. omega (arith, h some, size)) rs held

pub length-with_octets : (rs : List Range) (m n : List ℕ) → length n ≡ length m → EndIn m rs
    → length (with_octets_of m n rs) ≡ length m
length-with_octets [] m n size held = refl
length-with_octets (r ∷ rs) m n size held =
    let d : List ℕ = part n r.at r.len in
    let here = All-head (λ x. 0 < x.len → EndsIn m x.at x.len) r rs held in
    let same : length (put m r.at d) ≡ length m = length-one m n r.at r.len size here in
    let rest = All-tail (λ x. 0 < x.len → EndsIn m x.at x.len) r rs held in
    length-with_octets rs (put m r.at d) n (size ∙ sym same) (same_end m (put m r.at d) rs same rest) ∙ same

pub get_or-with_octets_beside : (rs : List Range) (m n : List ℕ) (i : ℕ) → length n ≡ length m → EndIn m rs
    → IsBeside i rs → get_or (with_octets_of m n rs) i 0 ≡ get_or m i 0
get_or-with_octets_beside [] m n i size held out = refl
get_or-with_octets_beside (r ∷ rs) m n i size held out =
    let d : List ℕ = part n r.at r.len in
    let here = All-head (λ x. 0 < x.len → EndsIn m x.at x.len) r rs held in
    let same : length (put m r.at d) ≡ length m = length-one m n r.at r.len size here in
    let rest = All-tail (λ x. 0 < x.len → EndsIn m x.at x.len) r rs held in
    get_or-with_octets_beside rs (put m r.at d) n i (size ∙ sym same) (same_end m (put m r.at d) rs same rest) out.1
    ∙ get_or-one m n r.at r.len i size here out.0

pub taken_back : (rs : List Range) (base : ℕ) (m n o : List ℕ) → length o ≡ length m → AgreeOn m n rs
    → AreHeld base m rs → with_octets_of (with_octets_of m o rs) n rs ≡ m
taken_back rs base m n o size agree held =
    let ends : EndIn m rs = ends_in base m rs held in
    with_octets_is rs (with_octets_of m o rs) n m (length-with_octets rs m o size ends) (sym agree.size) ends
    agree.octets
    (λ i out. get_or-with_octets_beside rs m o i size ends out)
