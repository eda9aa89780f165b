-- A descriptor as it is read: its length depends on its address and its length, and all else on itself.
use Rattle.std.proofs.Common.{◌≡◌, ◌≢◌, ◌∙◌, ◌+◌, ◌*◌, ◌<◌, ℕ, zero, suc, Bool, true, false, List, [], ◌∷◌, refl, sym, ap}
use Rattle.std.proofs.Common.{arith}
use Rattle.std.specs.Prelude.{◌==◌, drop, set, slice_index, if◌then◌else◌}
use Rattle.std.proofs.lemmas.List.{get_or-drop, get_or-set_other}
use Rattle.byteorder.specs.Endian.{little_from}
use Rattle.em_regs.specs.declared.profile.Profile.{Profile}
use Rattle.em_regs.specs.declared.profile.Profile.TheVariants.{Table, Adapter}
use Rattle.em_regs.specs.Setup.{bit}
use Rattle.em_rx.specs.Control.{is_null_at}
use Rattle.em_tx.specs.Control.{as_read, without_octets}
use Rattle.em_tx.specs.Descriptor.{address, dext, length_of}

-- a number is the same where its octets are
pub number_same : (xs ys : List ℕ) (i n : ℕ) → ((k : ℕ) → k < i + n → slice_index xs k ≡ slice_index ys k)
    → little_from i n xs ≡ little_from i n ys
number_same xs ys i zero same = refl
number_same xs ys i (suc n) same =
    ap (λ (v : ℕ). v + 256 * little_from (suc i) n xs) (same i (omega arith))
    ∙ ap (λ (v : ℕ). slice_index ys i + 256 * v) (number_same xs ys (suc i) n (λ k less. same k (omega arith)))

-- ---- a descriptor without octets
set_zero : (l : List ℕ) (i : ℕ) → slice_index (set l i 0) i ≡ 0
set_zero [] i = refl
set_zero (x ∷ l) zero = refl
set_zero (x ∷ l) (suc i) = set_zero l i

other_octet : (d : List ℕ) (i : ℕ) → i ≢ 8 → i ≢ 9 → slice_index (without_octets d) i ≡ slice_index d i
other_octet d i eighth ninth = get_or-set_other (set d 8 0) 9 i 0 0 ninth ∙ get_or-set_other d 8 i 0 0 eighth

address_without : (d : List ℕ) → address (without_octets d) ≡ address d
unfolding address
address_without d =
    number_same (without_octets d) d 0 8 (λ k less. other_octet d k (λ e. omega (arith, e, less)) (λ e. omega (arith, e, less)))

dext_without : (d : List ℕ) → dext (without_octets d) ≡ dext d
unfolding dext
dext_without d = ap (λ (v : ℕ). bit v 5) (other_octet d 11 (λ e. omega (arith, e)) (λ e. omega (arith, e)))

length_without : (d : List ℕ) → length_of (without_octets d) ≡ 0
unfolding length_of
length_without d =
    let x = without_octets d in
    let low : slice_index (drop 8 x) 0 ≡ 0
    = get_or-drop 8 x 0 0 ∙ get_or-set_other (set d 8 0) 9 8 0 0 (λ e. omega (arith, e)) ∙ set_zero d 8 in
    let high : slice_index (drop 8 x) 1 ≡ 0 = get_or-drop 8 x 1 0 ∙ set_zero (set d 8 0) 9 in
    λ i. low i + 256 * (high i + 256 * 0)

-- ---- as the profile reads it
either_same : {A : Type 0} (b : Bool) (f : List ℕ → A) (x y : List ℕ) → f x ≡ f y → f (if b then x else y) ≡ f y
either_same true f x y same = same
either_same false f x y same = refl

either_length : (b : Bool) (x y : List ℕ) → length_of x ≡ 0
    → length_of (if b then x else y) ≡ (if b then 0 else length_of y)
either_length true x y none = none
either_length false x y none = refl

pub address_read : (p : Profile) (d : List ℕ) → address (as_read p d) ≡ address d
unfolding as_read
address_read Table d = refl
address_read Adapter d = either_same (address d == 0) address (without_octets d) d (address_without d)

pub dext_read : (p : Profile) (d : List ℕ) → dext (as_read p d) ≡ dext d
unfolding as_read
dext_read Table d = refl
dext_read Adapter d = either_same (address d == 0) dext (without_octets d) d (dext_without d)

abbrev read_length : Profile → ℕ → ℕ → ℕ
read_length Table a n = n
read_length Adapter a n = if a == 0 then 0 else n

length_read : (p : Profile) (d : List ℕ) → length_of (as_read p d) ≡ read_length p (address d) (length_of d)
unfolding as_read
length_read Table d = refl
length_read Adapter d = either_length (address d == 0) (without_octets d) d (length_without d)

pub length_alike : (p : Profile) (d e : List ℕ) → address d ≡ address e → length_of d ≡ length_of e
    → length_of (as_read p d) ≡ length_of (as_read p e)
length_alike p d e at long =
    length_read p d
    ∙ ap (λ (a : ℕ). read_length p a (length_of d)) at
    ∙ ap (λ (n : ℕ). read_length p (address e) n) long
    ∙ sym (length_read p e)

read_by_null : (p : Profile) (a n : ℕ) → read_length p a n ≡ (if is_null_at p a then 0 else n)
unfolding is_null_at
read_by_null Table a n = refl
read_by_null Adapter a n = refl

-- it has no octets, or as many as it says
pub length_by_null : (p : Profile) (d : List ℕ)
    → length_of (as_read p d) ≡ (if is_null_at p (address d) then 0 else length_of d)
length_by_null p d = length_read p d ∙ read_by_null p (address d) (length_of d)

-- the first profile reads it as it lies there
pub read_plainly : (d : List ℕ) → as_read Table d ≡ d
unfolding as_read
read_plainly d = refl
