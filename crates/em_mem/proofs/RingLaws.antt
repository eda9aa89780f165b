-- Turned lists, and writes that go on at the list's beginning.
use Rattle.std.proofs.Common.{◌≡◌, ℕ, ◌+◌, ◌-◌, ◌≤◌, ◌<◌, List, ◌++◌, length, take, drop, set, refl, sym, ap, ap₂, ◌∙◌}
use Rattle.std.proofs.Common.{◌*◌, ◌%◌, inl, inr, arith, length-append, length-drop, length-set}
use Rattle.std.proofs.lemmas.List.{take_at, drop_at, length-take-le, drop-drop, take-append-drop, append_assoc}
use Rattle.std.proofs.lemmas.List.{take-take, drop-take, take-append-le, drop-append-le, set-append_left}
use Rattle.std.proofs.lemmas.List.{set-append_right, drop-set-add, take-set-le}
use Rattle.std.proofs.lemmas.Bool.{cases_lt}
use Rattle.std.proofs.lemmas.Nat.{mod-mul-add}
use Rattle.std.proofs.lemmas.Bool.Decides.{nat_tests}
use Rattle.em_mem.specs.Memory.{put}
use Rattle.em_mem.specs.Ring.{turn, unturn, ring_part, ring_put, wrap}

module _ {A : Type 0} where
  -- the first n + k items
  take_plus : (n k : ℕ) (xs : List A) → take n xs ++ take k (drop n xs) ≡ take (n + k) xs
  take_plus n k xs =
      ap₂ ◌++◌ (sym (take-take n (n + k) xs (omega arith))) (sym (drop-take n k xs))
      ∙ take-append-drop n (take (n + k) xs)

  -- items past the first of two lists
  pub drop_past : (xs ys : List A) (k n : ℕ) → n ≡ length xs + k → drop n (xs ++ ys) ≡ drop k ys
  drop_past xs ys k n is =
      ap (λ i. drop i (xs ++ ys)) is
      ∙ sym (drop-drop k (length xs) (xs ++ ys))
      ∙ ap (drop k) (drop_at xs ys (length xs) refl)

  pub take_past : (xs ys : List A) (k n : ℕ) → n ≡ length xs + k → take n (xs ++ ys) ≡ xs ++ take k ys
  take_past xs ys k n is =
      ap (λ i. take i (xs ++ ys)) is
      ∙ sym (take_plus (length xs) k (xs ++ ys))
      ∙ ap₂ ◌++◌ (take_at xs ys (length xs) refl) (ap (take k) (drop_at xs ys (length xs) refl))

  -- a write at the front of two lists, within the first or over both
  pub front_within : (xs ys d : List A) → length d ≤ length xs →
      (d ++ drop (length d) xs) ++ ys ≡ d ++ drop (length d) (xs ++ ys)
  front_within xs ys d h =
      append_assoc d (drop (length d) xs) ys ∙ ap (λ t. d ++ t) (sym (drop-append-le (length d) xs ys h))

  pub front_over : (xs ys d e : List A) → length d ≡ length xs →
      d ++ (e ++ drop (length e) ys) ≡ (d ++ e) ++ drop (length (d ++ e)) (xs ++ ys)
  front_over xs ys d e h =
      sym (append_assoc d e (drop (length e) ys))
      ∙ ap (λ t. (d ++ e) ++ t) (sym (drop_past xs ys (length e) (length (d ++ e)) (omega (arith, length-append d e))))

  -- two lists in the other order
  turn_joined : (k : ℕ) (low high : List A) → length low ≡ k → turn k (low ++ high) ≡ high ++ low
  turn_joined k low high is = ap₂ ◌++◌ (drop_at low high k is) (take_at low high k is)

  pub unturn_joined : (k : ℕ) (low high : List A) → length low ≡ k → unturn k (high ++ low) ≡ low ++ high
  unturn_joined k low high is =
      let n : length high ≡ length (high ++ low) - k = omega (arith, length-append high low) in
      ap₂ ◌++◌ (drop_at high low _ n) (take_at high low _ n)

  pub length-turn : (k : ℕ) (xs : List A) → length (turn k xs) ≡ length xs
  length-turn k xs =
      length-append (drop k xs) (take k xs)
      ∙ omega (arith, length-append (take k xs) (drop k xs), ap length (take-append-drop k xs))

  pub length-unturn : (k : ℕ) (xs : List A) → length (unturn k xs) ≡ length xs
  length-unturn k xs = length-turn (length xs - k) xs

  pub unturn-turn : (k : ℕ) (xs : List A) → k ≤ length xs → unturn k (turn k xs) ≡ xs
  unturn-turn k xs h = unturn_joined k (take k xs) (drop k xs) (length-take-le k xs h) ∙ take-append-drop k xs

  pub turn-unturn : (k : ℕ) (xs : List A) → k ≤ length xs → turn k (unturn k xs) ≡ xs
  turn-unturn k xs h =
      turn_joined k (drop (length xs - k) xs) (take (length xs - k) xs) (omega (arith, length-drop (length xs - k) xs))
      ∙ take-append-drop (length xs - k) xs

  -- a turn further, short of the end or past it
  pub turn_more : (h n : ℕ) (xs : List A) → h + n ≤ length xs → turn (h + n) xs ≡ turn n (turn h xs)
  turn_more h n xs below =
      let l = length-drop h xs in
      let d = drop-append-le n (drop h xs) (take h xs) (omega arith) in
      let t = take-append-le n (drop h xs) (take h xs) (omega arith) in
      rw (d, t, drop-drop n h xs)
      (
      ap (λ x. drop (h + n) xs ++ x) (sym (take_plus h n xs))
      ∙ sym (append_assoc (drop (h + n) xs) (take h xs) (take n (drop h xs)))
      )

  pub turn_past : (h n r : ℕ) (xs : List A) → h ≤ length xs → r ≤ h → h + n ≡ length xs + r → turn r xs ≡ turn n (turn h xs)
  turn_past h n r xs inside less is =
      let l = length-drop h xs in
      let d = drop_past (drop h xs) (take h xs) r n (omega arith) in
      let t = take_past (drop h xs) (take h xs) r n (omega arith) in
      let whole : drop r xs ≡ drop r (take h xs) ++ drop h xs
      = ap (drop r) (sym (take-append-drop h xs))
      ∙ drop-append-le r (take h xs) (drop h xs) (omega (arith, length-take-le h xs inside)) in
      rw (d, t, take-take r h xs less)
      (ap (λ x. x ++ take r xs) whole ∙ append_assoc (drop r (take h xs)) (drop h xs) (take r xs))

  -- a turn to place h, and n places further
  pub turn-wrap : (size h n : ℕ) (xs : List A) → length xs ≡ size → h < size → n ≤ size →
      turn (wrap size (h + n)) xs ≡ turn n (turn h xs)
  turn-wrap size h n xs l inside less = elim (cases_lt (h + n) size) [
    | inl low ↦
        let w : wrap size (h + n) ≡ h + n = grind (arith, nat_tests) in
        ap (λ (k : ℕ). turn k xs) w ∙ turn_more h n xs (omega arith)
    | inr high ↦
        let w : wrap size (h + n) ≡ h + n - size = grind (arith, nat_tests) in
        ap (λ (k : ℕ). turn k xs) w ∙ turn_past h n (h + n - size) xs (omega arith) (omega arith) (omega arith)
  ]

  -- a write round the end leaves the size
  front_size : (xs d : List A) → length d ≤ length xs → length (d ++ drop (length d) xs) ≡ length xs
  front_size xs d h = omega (arith, length-append d (drop (length d) xs), length-drop (length d) xs)

  pub length-ring_put : (xs : List A) (k : ℕ) (d : List A) → length d ≤ length xs → length (ring_put xs k d) ≡ length xs
  length-ring_put xs k d h =
      length-unturn k (d ++ drop (length d) (turn k xs))
      ∙ front_size (turn k xs) d (omega (arith, length-turn k xs))
      ∙ length-turn k xs

  pub length-ring_part : (xs : List A) (k n : ℕ) → n ≤ length xs → length (ring_part xs k n) ≡ n
  length-ring_part xs k n h = length-take-le n (turn k xs) (omega (arith, length-turn k xs))

  -- the items that were there, put back, take a write back
  pub ring_put-ring_put : (xs : List A) (k : ℕ) (d : List A) → k ≤ length xs → length d ≤ length xs →
      ring_put (ring_put xs k d) k (ring_part xs k (length d)) ≡ xs
  ring_put-ring_put xs k d inside size =
      let T : List A = turn k xs in
      let F : List A = d ++ drop (length d) T in
      let lt : length T ≡ length xs = length-turn k xs in
      let lf : length F ≡ length xs = front_size T d (omega arith) ∙ lt in
      let seen : turn k (unturn k F) ≡ F = turn-unturn k F (omega arith) in
      let old : length (take (length d) T) ≡ length d = length-take-le (length d) T (omega arith) in
      let rest : drop (length (take (length d) T)) (turn k (unturn k F)) ≡ drop (length d) T
      = ap₂ (λ (n : ℕ) (x : List A). drop n x) old seen ∙ drop_at d (drop (length d) T) (length d) refl in
      ap (λ (t : List A). unturn k (take (length d) T ++ t)) rest
      ∙ ap (unturn k) (take-append-drop (length d) T)
      ∙ unturn-turn k xs inside

  -- one item, seen from place h on
  pub turn-set : (size h n : ℕ) (xs : List A) (e : A) → length xs ≡ size → h < size → n < size →
      turn h (set xs (wrap size (h + n)) e) ≡ set (turn h xs) n e
  turn-set size h n xs e l inside less =
      let dl : length (drop h xs) ≡ size - h = omega (arith, length-drop h xs) in
      let tl : length (take h xs) ≡ h = length-take-le h xs (omega arith) in
      elim (cases_lt (h + n) size) [
        | inl low ↦
            let w : wrap size (h + n) ≡ h + n = grind (arith, nat_tests) in
            ap (λ (k : ℕ). turn h (set xs k e)) w
            ∙ ap₂ ◌++◌ (drop-set-add h xs n e) (take-set-le h xs (h + n) e (omega arith))
            ∙ sym (set-append_left (drop h xs) (take h xs) n e (omega arith))
        | inr high ↦
            let w : wrap size (h + n) ≡ h + n - size = grind (arith, nat_tests) in
            let i : ℕ = h + n - size in
            let split : set xs i e ≡ set (take h xs) i e ++ drop h xs
            = ap (λ (x : List A). set x i e) (sym (take-append-drop h xs))
            ∙ set-append_left (take h xs) (drop h xs) i e (omega arith) in
            let kept : length (set (take h xs) i e) ≡ h = length-set (take h xs) i e ∙ tl in
            ap (λ (k : ℕ). turn h (set xs k e)) w
            ∙ ap (turn h) split
            ∙ turn_joined h (set (take h xs) i e) (drop h xs) kept
            ∙ ap (λ (k : ℕ). drop h xs ++ set (take h xs) k e) (omega arith)
            ∙ sym (set-append_right (drop h xs) (take h xs) (size - h) n e dl (omega arith))
      ]

-- a place that may be past the end once comes to lie in the ring
pub wrap-below : (size n : ℕ) → n < size + size → 0 < size → wrap size n < size
wrap-below size n h some = elim (cases_lt n size) [
  | inl low ↦ let w : wrap size n ≡ n = grind (arith, nat_tests) in omega arith
  | inr high ↦ let w : wrap size n ≡ n - size = grind (arith, nat_tests) in omega arith
]

-- a place that is past the end once lies where the remainder says
pub wrap_remainder : (size n : ℕ) → n < size + size → wrap size n ≡ n % size
wrap_remainder size n h = elim (cases_lt n size) [
  | inl low ↦
      let w : wrap size n ≡ n = grind (arith, nat_tests) in
      let none : n ≡ 0 * size + n = omega arith in
      w ∙ sym (ap (λ (k : ℕ). k % size) none ∙ mod-mul-add 0 size n low)
  | inr high ↦
      let w : wrap size n ≡ n - size = grind (arith, nat_tests) in
      let split : n ≡ 1 * size + (n - size) = omega arith in
      w ∙ sym (ap (λ (k : ℕ). k % size) split ∙ mod-mul-add 1 size (n - size) (omega arith))
]

-- octets written u places behind place h, seen from place h on
module _ (size h u : ℕ) (xs d : List ℕ) (l : length xs ≡ size) (inside : h < size)
    (room : u + length d ≤ size) (some : 0 < length d) where
  abbrev place : ℕ
  place = wrap size (h + u)

  place_in : place < size
  place_in = wrap-below size (h + u) (omega arith) (omega arith)

  abbrev seen : List ℕ
  seen = turn h xs

  abbrev after : List ℕ
  after = d ++ drop (length d) (turn place xs)

  length-after : length after ≡ size
  length-after = front_size (turn place xs) d (omega (arith, length-turn place xs)) ∙ length-turn place xs ∙ l

  from_head : turn h (unturn place after) ≡ unturn u after
  from_head =
      let z : List ℕ = turn h (unturn place after) in
      let lu : length (unturn place after) ≡ size = length-unturn place after ∙ length-after in
      let lz : length z ≡ size = length-turn h (unturn place after) ∙ lu in
      let same : after ≡ turn u z
      = sym (turn-unturn place after (omega (arith, length-after, place_in)))
      ∙ turn-wrap size h u (unturn place after) lu inside (omega arith) in
      sym (ap (unturn u) same ∙ unturn-turn u z (omega arith))

  after_is : after ≡ (d ++ drop (u + length d) seen) ++ take u seen
  after_is =
      let ls : length seen ≡ size = length-turn h xs ∙ l in
      let rest : drop (length d) (drop u seen ++ take u seen) ≡ drop (u + length d) seen ++ take u seen
      = drop-append-le (length d) (drop u seen) (take u seen) (omega (arith, length-drop u seen))
      ∙ ap (λ (x : List ℕ). x ++ take u seen) (drop-drop (length d) u seen) in
      ap (λ (x : List ℕ). d ++ drop (length d) x) (turn-wrap size h u xs l inside (omega arith))
      ∙ ap (λ (x : List ℕ). d ++ x) rest
      ∙ sym (append_assoc d (drop (u + length d) seen) (take u seen))

  pub turn-ring_put : turn h (ring_put xs (wrap size (h + u)) d) ≡ put (turn h xs) u d
  turn-ring_put =
      let ls : length seen ≡ size = length-turn h xs ∙ l in
      from_head
      ∙ ap (unturn u) after_is
      ∙ unturn_joined u (take u seen) (d ++ drop (u + length d) seen) (length-take-le u seen (omega arith))
