-- A window of memory with a patch laid over it is that window with the patch put back.
use Rattle.std.proofs.Common.{◌≡◌, ℕ, ◌+◌, ◌-◌, ◌<◌, ◌≤◌, ◌⊎◌, List, [], ◌++◌, length, take, drop, get_or, inl, inr}
use Rattle.std.proofs.Common.{refl, sym, ap, ◌∙◌, arith, length-append, length-drop}
use Rattle.std.proofs.lemmas.List.{
  ext_get_or,
  get_or_append_left,
  get_or-append_right,
  get_or-take,
  get_or-drop,
  length-take,
  length-take-le,
  drop-drop,
  append-nil,
  take_all,
}
use Rattle.std.proofs.lemmas.Bool.{cases_lt}
use Rattle.std.proofs.Math.ListN.{drop_of_length-le}
use Rattle.std.proofs.Math.Seq.{take-append-add}
use borrow.Rule.Slice.PartMut.{put_mid}
use Rattle.em_mem.specs.Memory.{Cells, Fits, EndsIn, Patch, part, put, undo}
use Rattle.em_mem.specs.Window.{IsWindow, lay_over}
use Rattle.em_mem.proofs.PutLaws.{length-put}

-- ---- one octet of a list where others are put from k on
pub before_put : (m : List ℕ) (k : ℕ) (d : List ℕ) (i : ℕ) → i < k → i < length m → get_or (put m k d) i 0 ≡ get_or m i 0
before_put m k d i l h =
    get_or_append_left (take k m) (d ++ drop (k + length d) m) 0 i (omega (arith, length-take k m)) ∙ get_or-take k m i 0 l

within_put : (m : List ℕ) (k : ℕ) (d : List ℕ) (i : ℕ) → k ≤ length m → k ≤ i → i < k + length d
    → get_or (put m k d) i 0 ≡ get_or d (i - k) 0
within_put m k d i held from to =
    get_or-append_right (take k m) (d ++ drop (k + length d) m) k i 0 (length-take-le k m held) from
    ∙ get_or_append_left d (drop (k + length d) m) 0 (i - k) (omega arith)

pub past_put : (m : List ℕ) (k : ℕ) (d : List ℕ) (i : ℕ) → k ≤ length m → k + length d ≤ i
    → get_or (put m k d) i 0 ≡ get_or m i 0
past_put m k d i held from =
    let rest : k + length d + (i - k - length d) ≡ i = omega arith in
    get_or-append_right (take k m) (d ++ drop (k + length d) m) k i 0 (length-take-le k m held) (omega arith)
    ∙ get_or-append_right d (drop (k + length d) m) (length d) (i - k) 0 refl (omega arith)
    ∙ get_or-drop (k + length d) m (i - k - length d) 0 ∙ ap (λ j. get_or m j 0) rest

-- octet i of a window
window_octet : (m : List ℕ) (a : ℕ) (w : List ℕ) (i : ℕ) → part m a (length w) ≡ w → i < length w
    → get_or m (a + i) 0 ≡ get_or w i 0
window_octet m a w i is l =
    sym (get_or-drop a m i 0) ∙ sym (get_or-take (length w) (drop a m) i 0 l) ∙ ap (λ x. get_or x i 0) is

-- which lies in memory
window_held : (m : List ℕ) (a : ℕ) (w : List ℕ) (i : ℕ) → part m a (length w) ≡ w → i < length w → a + i < length m
window_held m a w i is l = omega (arith, length-take (length w) (drop a m), length-drop a m, ap length is)

-- a window has as many octets after a write as before it
length-window : (m n : List ℕ) (a : ℕ) (w : List ℕ) → part m a (length w) ≡ w → length n ≡ length m
    → length (part n a (length w)) ≡ length w
length-window m n a w is same =
    length-take (length w) (drop a n)
    ∙ omega (arith, length-drop a n, length-drop a m, length-take (length w) (drop a m), ap length is, same)

length-lay_over : (a : ℕ) (w : List ℕ) (p : Patch) → length (lay_over a w p) ≡ length w
length-lay_over a w p =
    let k : ℕ = p.at - a in
    let d : List ℕ = drop (a - p.at) p.octets in
    length-take (length w) (put w k d) ∙ omega (
      arith,
      length-append (take k w) (d ++ drop (k + length d) w),
      length-append d (drop (k + length d) w),
      length-drop (k + length d) w,
      length-take k w,
    )

-- the same octet in both
octet-lay_over : (m : List ℕ) (a : ℕ) (w : List ℕ) (p : Patch) (i : ℕ) → EndsIn m p.at (length p.octets)
    → part m a (length w) ≡ w → i < length w
    → get_or (part (put m p.at p.octets) a (length w)) i 0 ≡ get_or (lay_over a w p) i 0
octet-lay_over m a w p i held is l =
    let in_memory : a + i < length m = window_held m a w i is l in
    let k : ℕ = p.at - a in
    let d : List ℕ = drop (a - p.at) p.octets in
    let size : length d ≡ length p.octets - (a - p.at) = length-drop (a - p.at) p.octets in
    let here : get_or m (a + i) 0 ≡ get_or w i 0 = window_octet m a w i is l in
    let left : get_or (part (put m p.at p.octets) a (length w)) i 0 ≡ get_or (put m p.at p.octets) (a + i) 0
    = get_or-take (length w) (drop a (put m p.at p.octets)) i 0 l ∙ get_or-drop a (put m p.at p.octets) i 0 in
    let right : get_or (lay_over a w p) i 0 ≡ get_or (put w k d) i 0 = get_or-take (length w) (put w k d) i 0 l in
    let same : get_or (put m p.at p.octets) (a + i) 0 ≡ get_or (put w k d) i 0
    = elim (cases_lt (a + i) p.at) [
      | inl before ↦ before_put m p.at p.octets (a + i) before (omega arith) ∙ here
          ∙ sym (before_put w k d i (omega arith) l)
      | inr from ↦ elim (cases_lt (a + i) (p.at + length p.octets)) [
        | inl to ↦
            let place : a - p.at + (i - k) ≡ a + i - p.at = omega arith in
            within_put m p.at p.octets (a + i) (omega arith) from to
            ∙ sym (within_put w k d i (omega arith) (omega arith) (omega (arith, size))
            ∙ get_or-drop (a - p.at) p.octets (i - k) 0 ∙ ap (λ j. get_or p.octets j 0) place)
        | inr past ↦ past_put m p.at p.octets (a + i) (omega arith) past ∙ here
            ∙ sym (past_put w k d i (omega arith) (omega (arith, size)))
      ]
    ] in
    left ∙ same ∙ sym right

part-undone : (m : List ℕ) (a : ℕ) (w : List ℕ) (p : Patch) → EndsIn m p.at (length p.octets)
    → part m a (length w) ≡ w → part (put m p.at p.octets) a (length w) ≡ lay_over a w p
part-undone m a w p held is =
    let size : length (part (put m p.at p.octets) a (length w)) ≡ length w
    = length-window m (put m p.at p.octets) a w is (length-put m p.at p.octets held) in
    ext_get_or 0 (part (put m p.at p.octets) a (length w)) (lay_over a w p) (size ∙ sym (length-lay_over a w p))
    (λ i l. octet-lay_over m a w p i held is (omega (arith, size, l)))

-- a window with the patch laid over it is the window with the patch put back
pub window-undone : (a : ℕ) (w new : List ℕ) (p : Patch) → new ≡ lay_over a w p → (m : Cells) → Fits m p
    → IsWindow m.octets a w → IsWindow (undo m p).octets a new
window-undone a w new p laid m fits is =
    ap (part (undo m p).octets a) (ap length laid ∙ length-lay_over a w p) ∙ part-undone m.octets a w p fits.held.to is
    ∙ sym laid

-- ---- one octet of a window with a patch laid over it
laid_beside : (a : ℕ) (w : List ℕ) (p : Patch) (i : ℕ) → i < length w
    → (a + i < p.at) ⊎ (p.at + length p.octets ≤ a + i) → get_or (lay_over a w p) i 0 ≡ get_or w i 0
laid_beside a w p i l (inl before) =
    get_or-take (length w) (put w (p.at - a) (drop (a - p.at) p.octets)) i 0 l
    ∙ before_put w (p.at - a) (drop (a - p.at) p.octets) i (omega arith) l
laid_beside a w p i l (inr past) =
    get_or-take (length w) (put w (p.at - a) (drop (a - p.at) p.octets)) i 0 l
    ∙ past_put w (p.at - a) (drop (a - p.at) p.octets) i (omega (arith, past))
    (omega (arith, past, length-drop (a - p.at) p.octets))

laid_within : (a : ℕ) (w : List ℕ) (p : Patch) (i : ℕ) → i < length w → p.at ≤ a + i
    → a + i < p.at + length p.octets
    → get_or (lay_over a w p) i 0 ≡ get_or p.octets (a + i - p.at) 0
laid_within a w p i l from to =
    let k : ℕ = p.at - a in
    let place : a - p.at + (i - k) ≡ a + i - p.at = omega arith in
    get_or-take (length w) (put w k (drop (a - p.at) p.octets)) i 0 l
    ∙ within_put w k (drop (a - p.at) p.octets) i (omega arith) (omega arith)
    (omega (arith, length-drop (a - p.at) p.octets))
    ∙ get_or-drop (a - p.at) p.octets (i - k) 0
    ∙ ap (λ j. get_or p.octets j 0) place

-- octets laid over a window in two pieces, one behind the other, are laid over it at once
module _ (a : ℕ) (w : List ℕ) (at : ℕ) (d e : List ℕ) where
  abbrev front : Patch
  front = record { at = at; octets = d }

  abbrev back : Patch
  back = record { at = at + length d; octets = e }

  abbrev whole : Patch
  whole = record { at = at; octets = d ++ e }

  laid_twice : (i : ℕ) → i < length w
      → get_or (lay_over a (lay_over a w front) back) i 0 ≡ get_or (lay_over a w whole) i 0
  laid_twice i l =
      let both = length-append d e in
      let size = length-lay_over a w front in
      let here : i < length (lay_over a w front) = omega (arith, size, l) in
      elim (cases_lt (a + i) at) [
        | inl before ↦ laid_beside a (lay_over a w front) back i here (inl (omega arith))
            ∙ laid_beside a w front i l (inl before) ∙ sym (laid_beside a w whole i l (inl before))
        | inr from ↦ elim (cases_lt (a + i) (at + length d)) [
          | inl to ↦ laid_beside a (lay_over a w front) back i here (inl to)
              ∙ laid_within a w front i l from to
              ∙ sym (laid_within a w whole i l from (omega (arith, both))
              ∙ get_or_append_left d e 0 (a + i - at) (omega arith))
          | inr behind ↦ elim (cases_lt (a + i) (at + length d + length e)) [
            | inl to ↦
                let place : a + i - at - length d ≡ a + i - (at + length d) = omega arith in
                laid_within a (lay_over a w front) back i here behind to
                ∙ sym (laid_within a w whole i l from (omega (arith, both))
                ∙ get_or-append_right d e (length d) (a + i - at) 0 refl (omega arith)
                ∙ ap (λ j. get_or e j 0) place)
            | inr past ↦ laid_beside a (lay_over a w front) back i here (inr past)
                ∙ laid_beside a w front i l (inr behind)
                ∙ sym (laid_beside a w whole i l (inr (omega (arith, both))))
          ]
        ]
      ]

  pub lay_over-append : lay_over a (lay_over a w front) back ≡ lay_over a w whole
  lay_over-append =
      let size = length-lay_over a w front in
      let sizes = length-lay_over a (lay_over a w front) back in
      ext_get_or 0 (lay_over a (lay_over a w front) back) (lay_over a w whole)
      (sizes ∙ size ∙ sym (length-lay_over a w whole)) (λ i l. laid_twice i (omega (arith, size, sizes, l)))

-- octets laid over the end of a window, from place k on
pub cover_end : (w d new : List ℕ) (k : ℕ) → k ≤ length w → new ≡ take (length (take (length w - k) (drop k w)))
    (d ++ drop (length d) (take (length w - k) (drop k w)))
    → put_mid k (length w - k) w new ≡ take (length w) (put w k d)
cover_end w d new k held is =
    let front : length (take k w) ≡ k = length-take-le k w held in
    let size : length (drop k w) ≡ length w - k = length-drop k w in
    let all : take (length w - k) (drop k w) ≡ drop k w = take_all (length w - k) (drop k w) (omega (arith, size)) in
    let new_is : new ≡ take (length w - k) (d ++ drop (k + length d) w)
    = is ∙ (λ i. take (length (all i)) (d ++ drop (length d) (all i)))
    ∙ (λ i. take (size i) (d ++ drop-drop (length d) k w i)) in
    let whole : length w ≡ length (take k w) + (length w - k) = omega arith in
    let cut : take (length w) (put w k d) ≡ take k w ++ take (length w - k) (d ++ drop (k + length d) w)
    = ap (λ n. take n (put w k d)) whole ∙ take-append-add (take k w) (d ++ drop (k + length d) w) (length w - k) in
    let none : drop (length w - k) (drop k w) ≡ [] = drop_of_length-le (drop k w) (omega (arith, size)) in
    (λ i. take k w ++ (new_is i ++ none i))
    ∙ ap (λ x. take k w ++ x) (append-nil (take (length w - k) (d ++ drop (k + length d) w))) ∙ sym cut
