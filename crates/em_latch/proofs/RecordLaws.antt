-- How a record keeps growths.
use Rattle.std.proofs.Common.{◌≡◌, ◌≢◌, ℕ, ◌+◌, ◌-◌, ◌*◌, ◌/◌, ◌%◌, ◌^◌, ◌<◌, ◌≤◌, ◌==◌, zero, suc, true, false, inl, inr}
use Rattle.std.proofs.Common.{List, [], ◌∷◌, refl, sym, ap, ◌∙◌, arith, div-le_self}
use Rattle.std.specs.Prelude.{slice_index}
use Rattle.std.proofs.Math.Nat.{lt-div-mul-add, mul-le-mul_left, pow-le-pow_right, pow-suc}
use Rattle.std.proofs.lemmas.Nat.{pow-add}
use Rattle.std.proofs.lemmas.Bool.{cases_eq}
use Rattle.std.proofs.lemmas.Bool.Decides.{nat_tests}
use Rattle.em_latch.specs.declared.undo.TheConstants.{MOST_OCTETS, WORDS}
use Rattle.em_latch.specs.Storage.{offsets}
use Rattle.em_latch.specs.Latches.{Growth}
use Rattle.em_latch.specs.Undo.{AreKept, IsRecord, grown_by, growths_of, newest}
use Rattle.em_latch.specs.Undo.{octets_by, octets_for, octets_of, range_by}
use Rattle.em_latch.proofs.UndoLaws.{octets_for-bounds}

-- ---- the growths that a number is
pub growths_of-end : (n growths : ℕ) → growths % 256 ≡ 0 → growths_of n growths ≡ []
unfolding growths_of
growths_of-end zero growths end = refl
growths_of-end (suc n) growths end = let t : (growths % 256 == 0) ≡ true = grind (arith, nat_tests) in rw t refl

-- what lies behind the newest growth
abbrev behind : ℕ → ℕ
behind growths = growths / 256 / range_by (growths % 256 / 64)

-- the newest growth, and the others
growths_of-some : (n growths : ℕ) → growths % 256 ≢ 0
    → growths_of (suc n) growths ≡ newest (growths % 256) (growths / 256) ∷ growths_of n (behind growths)
unfolding growths_of
growths_of-some n growths some = let t : (growths % 256 == 0) ≡ false = grind (arith, nat_tests) in rw t refl

behind_less : (growths : ℕ) → behind growths ≤ growths / 256
behind_less growths = div-le_self (growths / 256) (range_by (growths % 256 / 64))

-- where there are no more than n, it is no matter whether more are asked for
growths_of-more : (n growths : ℕ) → growths < 256 ^ n → growths_of (suc n) growths ≡ growths_of n growths
growths_of-more zero growths few =
    growths_of-end 1 growths (omega arith) ∙ sym (growths_of-end 0 growths (omega arith))
growths_of-more (suc n) growths few = elim (cases_eq (growths % 256) 0) [
  | inl end ↦ growths_of-end (suc (suc n)) growths end ∙ sym (growths_of-end (suc n) growths end)
  | inr some ↦
      let power : 256 ^ (suc n) ≡ 256 ^ n * 256 = pow-suc 256 n in
      growths_of-some (suc n) growths some
      ∙ ap (λ gs. newest (growths % 256) (growths / 256) ∷ gs)
      (growths_of-more n (behind growths) (omega (arith, power, few, behind_less growths)))
      ∙ sym (growths_of-some n growths some)
]

-- a growth less
pub popped : (growths : ℕ) → growths % 256 ≢ 0 → growths < 2 ^ 128
    → growths_of MOST_OCTETS growths
    ≡ newest (growths % 256) (growths / 256) ∷ growths_of MOST_OCTETS (behind growths)
popped growths some below =
    growths_of-some 15 growths some
    ∙ ap (λ gs. newest (growths % 256) (growths / 256) ∷ gs)
    (sym (growths_of-more 15 (behind growths) (omega (arith, below, behind_less growths))))

-- ---- a growth more
-- the growth that is added, its width, and the growths with it but for its octet
pub record IsAdded (place by width more growths : ℕ) : Type 0 where
  pub within : place < WORDS
  pub few : width ≤ 3
  pub octets : octets_for by ≡ octets_by width + 1
  pub newest : grown_by width more ≡ by
  pub others : more / range_by width ≡ growths
  pub room : growths < 256 ^ 15

abbrev pub more_growths : ℕ → ℕ → ℕ → ℕ
more_growths place width more = more * 256 + (64 * width + (place + 1))

-- what the number is taken apart into
record Apart (place width more : ℕ) : Type 0 where
  octet : more_growths place width more % 256 ≡ 64 * width + (place + 1)
  width_is : (64 * width + (place + 1)) / 64 ≡ width
  place_is : (64 * width + (place + 1)) % 64 ≡ place + 1
  more_is : more_growths place width more / 256 ≡ more

apart : {place by width more growths : ℕ} → IsAdded place by width more growths → Apart place width more
apart {place} {by} {width} {more} {growths} added = record {
  octet = omega (arith, added.within, added.few);
  width_is = omega (arith, added.within);
  place_is = omega (arith, added.within);
  more_is = omega (arith, added.within, added.few);
}

pub pushed : {place by width more growths : ℕ} → IsAdded place by width more growths
    → growths_of MOST_OCTETS (more_growths place width more)
    ≡ record { at = slice_index offsets place; by = by } ∷ growths_of MOST_OCTETS growths
pushed {place} {by} {width} {more} {growths} added =
    let a = apart added in
    let some : more_growths place width more % 256 ≢ 0 = λ none. absurd (omega (arith, none, a.octet)) in
    let back : place + 1 - 1 ≡ place = omega arith in
    growths_of-some 15 (more_growths place width more) some
    ∙ rw (a.octet, a.width_is, a.place_is, a.more_is, added.newest, added.others, back)
    (ap (λ gs. record { at = slice_index offsets place; by = by } ∷ gs)
    (sym (growths_of-more 15 growths added.room)))

push_kept : {place by width more growths : ℕ} (n : ℕ) → IsAdded place by width more growths → AreKept n growths
    → AreKept (suc n) (more_growths place width more)
push_kept {place} {by} {width} {more} {growths} n added kept =
    let a = apart added in
    rw (a.octet, a.width_is, a.more_is, added.others) (
      record {
        some = omega (arith, a.place_is);
        place = omega (arith, added.within, a.place_is);
        least = rw (a.width_is, added.newest) added.octets;
      },
      kept,
    )

-- ---- how much room growths take
record Fill (n growths : ℕ) (gs : List Growth) : Type 0 where
  count : n ≤ octets_of gs
  sum : growths < 256 ^ octets_of gs

-- what a part of a number is below tells what the number is below
below_product : (n r m : ℕ) → 0 < r → n / r < m → n < r * m
below_product n r m some below = omega (arith, lt-div-mul-add {a = n} {b = r} some, mul-le-mul_left r below)

range_some : (width : ℕ) → 0 < range_by width
range_some width =
    omega (arith, pow-le-pow_right {n = 256} (omega arith) {i = 0} {j = octets_by width} (omega arith))

filled : (k n growths : ℕ) → n ≤ k → AreKept n growths → Fill n growths (growths_of k growths)
filled k zero growths le kept =
    rw (kept, growths_of-end k 0 refl) (record { count = omega arith; sum = omega arith })
filled zero (suc n) growths le kept = absurd (omega arith)
filled (suc k) (suc n) growths le kept =
    let width = growths % 256 / 64 in
    let by = grown_by width (growths / 256) in
    let rest = growths_of k (behind growths) in
    let inner = filled k n (behind growths) (omega arith) kept.1 in
    let some : growths % 256 ≢ 0 = λ none. absurd (omega (arith, none, kept.0.some)) in
    let octets : octets_of (growths_of (suc k) growths) ≡ suc (octets_by width + octets_of rest)
    = ap octets_of (growths_of-some k growths some) ∙ omega (arith, kept.0.least) in
    let all : 256 ^ suc (octets_by width + octets_of rest) ≡ 256 ^ (octets_by width + octets_of rest) * 256
    = pow-suc 256 (octets_by width + octets_of rest) in
    let parts : 256 ^ (octets_by width + octets_of rest) ≡ range_by width * 256 ^ octets_of rest
    = pow-add 256 (octets_by width) (octets_of rest) in
    record {
      count = omega (arith, octets, inner.count);
      sum =
          rw (octets, all, parts)
          (omega (
            arith,
            below_product (growths / 256) (range_by width) (256 ^ octets_of rest) (range_some width) inner.sum,
          ));
    }

-- ---- a record, and a growth for which it has room
kept_fill : {growths : ℕ} → (r : IsRecord growths) → Fill r.count growths (growths_of MOST_OCTETS growths)
kept_fill {growths} r = filled MOST_OCTETS r.count growths r.few r.kept

-- there is room, in the words of a caller
pub room_for : (growths : ℕ) {o by : ℕ} {g : Growth} {gs : List Growth}
    → growths_of MOST_OCTETS growths ≡ gs → record { at = o; by = by } ≡ g
    → octets_of gs + octets_for g.by ≤ MOST_OCTETS
    → octets_of (growths_of MOST_OCTETS growths) + octets_for by ≤ MOST_OCTETS
room_for growths views is room = omega (arith, ap octets_of views, ap (λ (x : Growth). octets_for x.by) is, room)

pub room_left : {growths : ℕ} (by : ℕ) → IsRecord growths
    → octets_of (growths_of MOST_OCTETS growths) + octets_for by ≤ MOST_OCTETS
    → growths < 256 ^ (MOST_OCTETS - octets_for by)
room_left {growths} by r room =
    let octets = octets_of (growths_of MOST_OCTETS growths) in
    let most : 256 ^ octets ≤ 256 ^ (MOST_OCTETS - octets_for by)
    = pow-le-pow_right {n = 256} (omega arith) {i = octets} {j = MOST_OCTETS - octets_for by} (omega (arith, room)) in
    omega (arith, most, (kept_fill r).sum)

pub few_growths : {growths : ℕ} (by : ℕ) → IsRecord growths
    → octets_of (growths_of MOST_OCTETS growths) + octets_for by ≤ MOST_OCTETS → growths < 256 ^ 15
few_growths {growths} by r room =
    let octets = octets_of (growths_of MOST_OCTETS growths) in
    let most : 256 ^ octets ≤ 256 ^ 15
    = pow-le-pow_right {n = 256} (omega arith) {i = octets} {j = 15}
    (omega (arith, room, (octets_for-bounds by).0)) in
    omega (arith, most, (kept_fill r).sum)

pub one_more : {place by width more growths : ℕ} → (r : IsRecord growths)
    → octets_of (growths_of MOST_OCTETS growths) + octets_for by ≤ MOST_OCTETS
    → IsAdded place by width more growths → IsRecord (more_growths place width more)
one_more {by = by} r room added = record {
  count = suc r.count;
  few = omega (arith, room, (kept_fill r).count, (octets_for-bounds by).0);
  kept = push_kept r.count added r.kept;
}
