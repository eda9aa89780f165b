-- Old octets that are saved, one record's after the other's.
use Rattle.std.proofs.Common.{◌≡◌, ℕ, ◌+◌, ◌-◌, ◌≤◌, List, ◌++◌, length, take, drop, refl, sym, ap}
use Rattle.std.proofs.Common.{subst, ◌∙◌, inl, inr, arith}
use Rattle.std.proofs.Common.{length-append, length-drop}
use Rattle.std.proofs.Math.Seq.{take-length}
use Rattle.std.proofs.lemmas.List.{take_at, drop_at, length-take, length-take-le, take-append-le, take-take, append_assoc}
use Rattle.std.proofs.lemmas.List.{drop-append-le}
use Rattle.std.proofs.lemmas.Bool.{cases_lt}
use Rattle.std.proofs.lemmas.Bool.Decides.{nat_tests}
use Rattle.em_mem.specs.Memory.{part}
use Rattle.em_mem.specs.Ring.{turn, ring_put}
use Rattle.em_mem.specs.OldOctets.{OldOctets, back_by, forward_by, saved, given_up, seen_from, IsLonger, Keeps, Saves}
use Rattle.em_mem.proofs.PutLaws.{length-part, part-append}
use Rattle.em_mem.proofs.RingLaws.{turn_more, turn_past, turn-unturn, length-turn, take_past}

-- ---- in the ring
-- its octets from place k on
abbrev pub seen : List ℕ → ℕ → OldOctets
seen xs k = record { top = k; octets = turn k xs }

-- the ring seen n places before place k
turned_back : (xs : List ℕ) (k n : ℕ) → k ≤ length xs → n ≤ length xs
    → turn k xs ≡ turn n (turn (back_by (length xs) n k) xs)
turned_back xs k n inside less = elim (cases_lt k n) [
  | inl high ↦
      let b : back_by (length xs) n k ≡ k + length xs - n = grind (arith, nat_tests) in
      rw b (turn_past (k + length xs - n) n k xs (omega arith) (omega arith) (omega arith))
  | inr low ↦
      let b : back_by (length xs) n k ≡ k - n = grind (arith, nat_tests) in
      let sum : k ≡ k - n + n = omega arith in
      rw b (ap (λ (i : ℕ). turn i xs) sum ∙ turn_more (k - n) n xs (omega arith))
]

back_by-inside : (size k n : ℕ) → k ≤ size → n ≤ size → back_by size n k ≤ size
back_by-inside size k n inside less = elim (cases_lt k n) [
  | inl high ↦ let b : back_by size n k ≡ k + size - n = grind (arith, nat_tests) in omega arith
  | inr low ↦ let b : back_by size n k ≡ k - n = grind (arith, nat_tests) in omega arith
]

-- octets that are written before those that are seen from place k on
pub saved_in : (xs : List ℕ) (k : ℕ) (d : List ℕ) → k ≤ length xs → length d ≤ length xs
    → (t : ℕ) → t ≡ back_by (length xs) (length d) k → (new : List ℕ) → new ≡ ring_put xs t d
    → seen new t ≡ saved d (seen xs k)
saved_in xs k d inside less t is new wrote =
    let n = length d in
    let T : List ℕ = turn t xs in
    let F : List ℕ = d ++ drop n T in
    let lt : length T ≡ length xs = length-turn t xs in
    let lf : length F ≡ length xs = omega (arith, length-append d (drop n T), length-drop n T, lt) in
    let within : t ≤ length F = omega (arith, lf, is, back_by-inside (length xs) k n inside less) in
    let seen : turn t new ≡ F = ap (turn t) wrote ∙ turn-unturn t F within in
    let old : turn k xs ≡ drop n T ++ take n T
    = turned_back xs k n inside less ∙ ap (λ (i : ℕ). turn n (turn i xs)) (sym is) in
    let lk : length (turn k xs) ≡ length xs = length-turn k xs in
    let left : length (drop n T) ≡ length (turn k xs) - n = omega (arith, length-drop n T, lt, lk) in
    let rest : take (length (turn k xs) - n) (turn k xs) ≡ drop n T
    = ap (take (length (turn k xs) - n)) old ∙ take_at (drop n T) (take n T) (length (turn k xs) - n) left in
    let top : t ≡ back_by (length (turn k xs)) n k = is ∙ ap (λ (size : ℕ). back_by size n k) (sym lk) in
    let octets : turn t new ≡ d ++ take (length (turn k xs) - n) (turn k xs) = seen ∙ ap (λ r. d ++ r) (sym rest) in
    λ i. record { top = top i; octets = octets i }

-- the ring seen n places behind place k
turned_forward : (xs : List ℕ) (k n : ℕ) → k ≤ length xs → n ≤ length xs
    → turn (forward_by (length xs) n k) xs ≡ turn n (turn k xs)
turned_forward xs k n inside less = elim (cases_lt (k + n) (length xs)) [
  | inl low ↦
      let f : forward_by (length xs) n k ≡ k + n = grind (arith, nat_tests) in
      rw f (turn_more k n xs (omega arith))
  | inr high ↦
      let f : forward_by (length xs) n k ≡ k + n - length xs = grind (arith, nat_tests) in
      rw f (turn_past k n (k + n - length xs) xs inside (omega arith) (omega arith))
]

-- octets that are seen from place k on, and then n places further on
pub given_up_in : (xs : List ℕ) (k n t : ℕ) → k ≤ length xs → n ≤ length xs → t ≡ forward_by (length xs) n k
    → seen xs t ≡ given_up n (seen xs k)
given_up_in xs k n t inside less is =
    let lk : length (turn k xs) ≡ length xs = length-turn k xs in
    let top : t ≡ forward_by (length (turn k xs)) n k = is ∙ ap (λ (size : ℕ). forward_by size n k) (sym lk) in
    let octets : turn t xs ≡ turn n (turn k xs) = ap (λ (i : ℕ). turn i xs) is ∙ turned_forward xs k n inside less in
    λ i. record { top = top i; octets = octets i }

-- from place k on, or from another one
pub seen_in : (xs : List ℕ) (k t : ℕ) → k ≤ length xs → t ≤ length xs
    → seen xs t ≡ seen_from t (seen xs k)
seen_in xs k t inside within =
    let lk : length (turn k xs) ≡ length xs = length-turn k xs in
    let there : turn t xs ≡ turn (back_by (length xs) k t) (turn k xs) = elim (cases_lt t k) [
      | inl before ↦
          let b : back_by (length xs) k t ≡ t + length xs - k = grind (arith, nat_tests) in
          rw b (turn_past k (t + length xs - k) t xs inside (omega arith) (omega arith))
      | inr behind ↦
          let b : back_by (length xs) k t ≡ t - k = grind (arith, nat_tests) in
          let sum : t ≡ k + (t - k) = omega arith in
          rw b (ap (λ (i : ℕ). turn i xs) sum ∙ turn_more k (t - k) xs (omega arith))
    ] in
    let octets : turn t xs ≡ turn (back_by (length (turn k xs)) k t) (turn k xs)
    = there ∙ ap (λ (size : ℕ). turn (back_by size k t) (turn k xs)) (sym lk) in
    λ i. record { top = t; octets = octets i }

-- ---- as a list
pub saved_nothing : (m : List ℕ) (a : ℕ) (o : OldOctets) → o ≡ saved (part m a 0) o
saved_nothing m a o =
    let all : length o.octets ≡ length o.octets - 0 = omega arith in
    let octets : o.octets ≡ take (length o.octets - 0) o.octets
    = sym (take-length o.octets) ∙ ap (λ (n : ℕ). take n o.octets) all in
    let top : o.top ≡ back_by (length o.octets) 0 o.top = grind (arith, nat_tests) in
    λ i. record { top = top i; octets = octets i }

back_by-back_by : (size k m n : ℕ) → m + n ≤ size → back_by size m (back_by size n k) ≡ back_by size (m + n) k
back_by-back_by size k m n room = elim (cases_lt k n) [
  | inl high ↦
      let b : back_by size n k ≡ k + size - n = grind (arith, nat_tests) in
      let c : back_by size m (k + size - n) ≡ k + size - n - m = grind (arith, nat_tests) in
      let d : back_by size (m + n) k ≡ k + size - (m + n) = grind (arith, nat_tests) in
      rw (b, c, d) (omega arith)
  | inr low ↦
      let b : back_by size n k ≡ k - n = grind (arith, nat_tests) in
      elim (cases_lt (k - n) m) [
        | inl short ↦
            let c : back_by size m (k - n) ≡ k - n + size - m = grind (arith, nat_tests) in
            let d : back_by size (m + n) k ≡ k + size - (m + n) = grind (arith, nat_tests) in
            rw (b, c, d) (omega arith)
        | inr long ↦
            let c : back_by size m (k - n) ≡ k - n - m = grind (arith, nat_tests) in
            let d : back_by size (m + n) k ≡ k - (m + n) = grind (arith, nat_tests) in
            rw (b, c, d) (omega arith)
      ]
]

pub length-saved : (d : List ℕ) (o : OldOctets) → length d ≤ length o.octets → length (saved d o).octets ≡ length o.octets
length-saved d o room =
    omega (
      arith,
      length-append d (take (length o.octets - length d) o.octets),
      length-take-le (length o.octets - length d) o.octets (omega arith),
    )

-- octets that are saved before others, as if they were saved together
pub saved-saved : (d e : List ℕ) (o : OldOctets) → length d + length e ≤ length o.octets
    → saved d (saved e o) ≡ saved (d ++ e) o
saved-saved d e o room =
    let size = length o.octets in
    let both = length-append d e in
    let le : length (saved e o).octets ≡ size = length-saved e o (omega arith) in
    let rest : take (size - length d) (e ++ take (size - length e) o.octets) ≡ e ++ take (size - length (d ++ e)) o.octets
    = take_past e (take (size - length e) o.octets) (size - length (d ++ e)) (size - length d) (omega arith)
    ∙ ap (λ r. e ++ r) (take-take (size - length (d ++ e)) (size - length e) o.octets (omega arith)) in
    let top : back_by (length (saved e o).octets) (length d) (back_by size (length e) o.top)
    ≡ back_by size (length (d ++ e)) o.top
    = ap (λ (s : ℕ). back_by s (length d) (back_by size (length e) o.top)) le
    ∙ back_by-back_by size o.top (length d) (length e) room ∙ ap (λ (n : ℕ). back_by size n o.top) (sym both) in
    let octets : d ++ take (length (saved e o).octets - length d) (saved e o).octets
    ≡ (d ++ e) ++ take (size - length (d ++ e)) o.octets
    = ap (λ (s : ℕ). d ++ take (s - length d) (saved e o).octets) le ∙ ap (λ r. d ++ r) rest
    ∙ sym (append_assoc d e (take (size - length (d ++ e)) o.octets)) in
    λ i. record { top = top i; octets = octets i }

-- a piece of memory that lies before those that are saved
pub saved_more : (m : List ℕ) (a left count n : ℕ) (o p q : OldOctets) → p ≡ saved (part m (a + left) n) o
    → count ≤ left → q ≡ saved (part m (a + (left - count)) count) p → a + left + n ≤ length m
    → count + n ≤ length o.octets → q ≡ saved (part m (a + (left - count)) (count + n)) o
saved_more m a left count n o p q older less newer held room =
    let near = part m (a + (left - count)) count in
    let far = part m (a + left) n in
    let ln : length near ≡ count = length-part m (a + (left - count)) count (omega arith) in
    let lf : length far ≡ n = length-part m (a + left) n held in
    let at : a + (left - count) + count ≡ a + left = omega arith in
    let joined : near ++ far ≡ part m (a + (left - count)) (count + n)
    = ap (λ (k : ℕ). near ++ part m k n) (sym at) ∙ part-append m (a + (left - count)) count n in
    newer ∙ ap (saved near) older ∙ saved-saved near far o (omega arith) ∙ ap (λ d. saved d o) joined

-- the first octets are those that were saved last
pub first-saved : (d : List ℕ) (o new : OldOctets) → new ≡ saved d o → take (length d) new.octets ≡ d
first-saved d o new is =
    ap (λ (x : OldOctets). take (length d) x.octets) is ∙ take_at d (take (length o.octets - length d) o.octets) (length d) refl

-- ---- octets that were saved
pub saves : (d : List ℕ) (n : ℕ) (o new : OldOctets) → length d ≡ n → n ≤ length o.octets → new ≡ saved d o → Saves n o new
saves d n o new size room is =
    let first : take n new.octets ≡ d = ap (λ (i : ℕ). take i new.octets) (sym size) ∙ first-saved d o new is in
    record { room = room; saved = is ∙ ap (λ x. saved x o) (sym first) }

pub length-saves : {n : ℕ} {o new : OldOctets} → Saves n o new → length new.octets ≡ length o.octets
length-saves {n} {o} {new} s =
    let first = length-take n new.octets in
    ap (λ (x : OldOctets). length x.octets) s.saved
    ∙ length-saved (take n new.octets) o (omega (arith, first, s.room))

-- so many are saved as the first ones are
pub length-first : {n : ℕ} {o new : OldOctets} → Saves n o new → length (take n new.octets) ≡ n
length-first {n} {o} {new} s = length-take-le n new.octets (omega (arith, length-saves s, s.room))

-- behind them lie the others
pub rest-saved : {n : ℕ} {o new : OldOctets} → Saves n o new → drop n new.octets ≡ take (length o.octets - n) o.octets
rest-saved {n} {o} {new} s =
    let size = length-first s in
    ap (λ (x : OldOctets). drop n x.octets) s.saved
    ∙ drop_at (take n new.octets) (take (length o.octets - length (take n new.octets)) o.octets) n size
    ∙ ap (λ (i : ℕ). take (length o.octets - i) o.octets) size

-- octets that are saved before others
pub saves_more : {m n : ℕ} {o p q : OldOctets} → Saves m o p → Saves n p q → n + m ≤ length o.octets → Saves (n + m) o q
saves_more {m} {n} {o} {p} {q} older newer room =
    let d = take n q.octets in
    let e = take m p.octets in
    let ld = length-first newer in
    let le = length-first older in
    let is : q ≡ saved (d ++ e) o
    = newer.saved ∙ ap (saved d) older.saved ∙ saved-saved d e o (omega arith) in
    saves (d ++ e) (n + m) o q (length-append d e ∙ omega arith) room is

-- what was saved first lies behind what was saved then
pub second-saved : (d e : List ℕ) (o p q : OldOctets) → p ≡ saved e o → q ≡ saved d p
    → length d + length e ≤ length o.octets → part q.octets (length d) (length e) ≡ e
second-saved d e o p q older newer room =
    let size : length p.octets ≡ length o.octets
    = ap (λ (x : OldOctets). length x.octets) older ∙ length-saved e o (omega arith) in
    ap (λ (x : OldOctets). part x.octets (length d) (length e)) newer
    ∙ ap (take (length e)) (drop_at d (take (length p.octets - length d) p.octets) (length d) refl)
    ∙ take-take (length e) (length p.octets - length d) p.octets (omega (arith, size))
    ∙ first-saved e o p older

-- what is seen first k places further on
pub first-given_up : (o : OldOctets) (k n : ℕ) → k + n ≤ length o.octets
    → take n (given_up k o).octets ≡ part o.octets k n
first-given_up o k n room =
    take-append-le n (drop k o.octets) (take k o.octets) (omega (arith, length-drop k o.octets))

-- octets that were saved once it was seen that there is room
pub keeps : {P : Type 0} {n : ℕ} (o p q : OldOctets) → (n ≤ length o.octets → P × (p ≡ o)) → Saves n p q → Keeps n o q
keeps {n = n} o p q ready s = record {
  room = omega (arith, length-saves s, s.room);
  saves = λ fits. subst (λ x. Saves n x q) (ready fits).1 s;
}

-- ---- a longer ring
-- the first octets of a ring that is seen from place k on, before its end
first-turn : (xs : List ℕ) (k n : ℕ) → k + n ≤ length xs → take n (turn k xs) ≡ part xs k n
first-turn xs k n inside = take-append-le n (drop k xs) (take k xs) (omega (arith, length-drop k xs))

pub longer_is : (xs zs ys : List ℕ) (k : ℕ) → k ≤ length xs → ys ≡ xs ++ zs
    → IsLonger (seen xs k) (seen ys k) (length ys)
longer_is xs zs ys k inside is =
    let size : length ys ≡ length xs + length zs = ap length is ∙ length-append xs zs in
    record {
      top = refl;
      room = length-turn k ys;
      first = λ n fits.
          let less : k + n ≤ length xs = omega (arith, fits, length-turn k xs) in
          first-turn ys k n (omega (arith, size, less))
          ∙ ap (λ (l : List ℕ). part l k n) is
          ∙ ap (take n) (drop-append-le k xs zs inside)
          ∙ take-append-le n (drop k xs) zs (omega (arith, less, length-drop k xs))
          ∙ sym (first-turn xs k n less);
    }
