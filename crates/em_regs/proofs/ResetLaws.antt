-- What power on and a reset leave in the registers.
use Rattle.std.proofs.Common.{◌≡◌, ◌≢◌, ℕ, ◌+◌, ◌==◌, Bool, true, false, cond, if◌then◌else◌, List, [], ◌∷◌, length}
use Rattle.std.proofs.Common.{Option, Some, refl, sym, ap, ◌∙◌, inl, inr, arith}
use Rattle.std.specs.Cmp.{nat_cmp_total}
use Rattle.std.specs.FinMap as map
use Rattle.std.specs.FinMap.{get-insert, same_map, nat_cmp-IsAntisymmetric}
use Rattle.std.specs.Ordering.{nat_cmp, eq_by_cmp}
use Rattle.std.proofs.lemmas.Bool.{cases_eq}
use Rattle.std.proofs.lemmas.Bool.Decides.{nat_tests}
use Rattle.em_regs.specs.declared.profile.Profile.{Profile}
use Rattle.em_regs.specs.declared.profile.Profile.TheVariants.{Table, Adapter}
use Rattle.em_regs.specs.declared.reg.Reg.{Reg}
use Rattle.em_regs.specs.declared.reg.Reg.TheVariants.{Pba}
use Rattle.em_regs.specs.Table.{offset_of}
use Rattle.em_regs.specs.Storage.{Registers, offsets}
use Rattle.em_regs.specs.RegFile.{at, zeroed, reset, at_power_on, after_reset, put_all, start_values, start_at, left_at}
use Rattle.em_regs.specs.RegFile.{value_in, address_low, address_high}
use Rattle.em_regs.proofs.Entries.{at-insert_same, at-insert_other}
use Rattle.em_regs.proofs.Words.{at-zeros}

-- ---- numbers put into registers
at_one : (m : Registers) (k v o : ℕ) → at (map.insert m k v) o ≡ (if k == o then v else at m o)
at_one m k v o = elim (cases_eq k o) [
  | inl is ↦ let t : (k == o) ≡ true = grind (arith, nat_tests) in
      ap (at (map.insert m k v)) (sym is) ∙ at-insert_same m k v ∙ sym (ap (λ b. if b then v else at m o) t)
  | inr other ↦ let f : (k == o) ≡ false = grind (arith, nat_tests) in
      at-insert_other m k v o (λ is. other (sym is)) ∙ sym (ap (λ b. if b then v else at m o) f)
]

at_all : (ps : List (Reg × ℕ)) (m : Registers) (o : ℕ) → at (put_all m ps) o ≡ value_in ps o (at m o)
at_all [] m o = refl
at_all (p ∷ ps) m o =
    at_all ps (map.insert m (offset_of p.0) p.1) o ∙ ap (value_in ps o) (at_one m (offset_of p.0) p.1 o)

-- ---- what is left
zero_at : (mac : List ℕ) (o : ℕ) → o ≢ 0x05400 → o ≢ 0x05404 → at (reset mac) o ≡ 0
unfolding zeroed
zero_at mac o low high =
    at-insert_other _ _ _ o high ∙ at-insert_other _ _ _ o low ∙ at-zeros offsets (length offsets) o

pub started_at : (p : Profile) (mac : List ℕ) (o : ℕ) → o ≢ 0x05400 → o ≢ 0x05404
    → at (at_power_on p mac) o ≡ start_at p o
started_at Table mac o low high = zero_at mac o low high
started_at Adapter mac o low high =
    at_all start_values (reset mac) o ∙ ap (value_in start_values o) (zero_at mac o low high)

kept_or : (b : Bool) (x y z : ℕ) → y ≡ z → (if b then x else y) ≡ (if b then x else z)
kept_or b x y z is = ap (λ w. if b then x else w) is

pba_or : (m n : Registers) (o : ℕ) → at n o ≡ start_at Adapter o
    → at (map.insert n (offset_of Pba) (at m (offset_of Pba))) o ≡ left_at Adapter m o
pba_or m n o is = elim (cases_eq (offset_of Pba) o) [
  | inl here ↦ let t : (offset_of Pba == o) ≡ true = grind (arith, nat_tests) in
      ap (at (map.insert n (offset_of Pba) (at m (offset_of Pba)))) (sym here)
      ∙ at-insert_same n (offset_of Pba) (at m (offset_of Pba)) ∙ ap (at m) here
      ∙ sym (ap (λ b. if b then at m o else start_at Adapter o) t)
  | inr other ↦ let f : (offset_of Pba == o) ≡ false = grind (arith, nat_tests) in
      at-insert_other n (offset_of Pba) (at m (offset_of Pba)) o (λ is. other (sym is)) ∙ is
      ∙ sym (ap (λ b. if b then at m o else start_at Adapter o) f)
]

pub left_by_reset : (p : Profile) (m : Registers) (mac : List ℕ) (o : ℕ) → o ≢ 0x05400 → o ≢ 0x05404
    → at (after_reset p m mac) o ≡ left_at p m o
left_by_reset Table m mac o low high = zero_at mac o low high
left_by_reset Adapter m mac o low high =
    pba_or m (at_power_on Adapter mac) o (started_at Adapter mac o low high)

-- ---- the first receive address
low_at : (mac : List ℕ) → at (reset mac) 0x05400 ≡ address_low mac
low_at mac = at-insert_other _ _ _ 0x05400 (λ e. absurd (omega arith)) ∙ at-insert_same _ _ _

high_at : (mac : List ℕ) → at (reset mac) 0x05404 ≡ address_high mac + 0x8000_0000
high_at mac = at-insert_same _ _ _

pub low_left : (p : Profile) (m : Registers) (mac : List ℕ) → at (after_reset p m mac) 0x05400 ≡ address_low mac
low_left Table m mac = low_at mac
low_left Adapter m mac =
    at-insert_other _ _ _ 0x05400 (λ e. absurd (omega arith)) ∙ at_all start_values (reset mac) 0x05400 ∙ low_at mac

pub high_left : (p : Profile) (m : Registers) (mac : List ℕ)
    → at (after_reset p m mac) 0x05404 ≡ address_high mac + 0x8000_0000
high_left Table m mac = high_at mac
high_left Adapter m mac =
    at-insert_other _ _ _ 0x05404 (λ e. absurd (omega arith)) ∙ at_all start_values (reset mac) 0x05404 ∙ high_at mac

-- ---- a reset at power on
twice : (b : Bool) (v : ℕ) (x : Option ℕ) → cond b (Some v) (cond b (Some v) x) ≡ cond b (Some v) x
twice true v x = refl
twice false v x = refl

put_twice : (m : Registers) (o v : ℕ) → map.insert (map.insert m o v) o v ≡ map.insert m o v
put_twice m o v = same_map nat_cmp_total nat_cmp-IsAntisymmetric _ _ (λ q.
    get-insert nat_cmp_total (map.insert m o v) o v q
    ∙ ap (cond (eq_by_cmp nat_cmp q o) (Some v)) (get-insert nat_cmp_total m o v q)
    ∙ twice (eq_by_cmp nat_cmp q o) v (map.get m q)
    ∙ sym (get-insert nat_cmp_total m o v q))

pub reset_again : (p : Profile) (mac : List ℕ) → after_reset p (at_power_on p mac) mac ≡ at_power_on p mac
reset_again Table mac = refl
reset_again Adapter mac =
    ap (map.insert (at_power_on Adapter mac) (offset_of Pba)) (at-insert_same _ (offset_of Pba) 0x0010_0030)
    ∙ put_twice _ (offset_of Pba) 0x0010_0030
