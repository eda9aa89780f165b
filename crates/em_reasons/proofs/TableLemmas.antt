-- The first test that holds.
use Rattle.std.proofs.Common.{◌≡◌, ◌∙◌, ◌<◌, ℕ, zero, suc, Bool, true, false, List, [], ◌∷◌, Some, refl}
use Rattle.std.proofs.Common.{sym, ap, arith}
use Rattle.std.specs.Prelude.{slice_get, if◌then◌else◌}
use Rattle.em_reasons.specs.Table.{Decides, GivesFirst, first_of}

row_is : {A : Type 0} (x y : A) → Some x ≡ Some y → x ≡ y
row_is x y h = cc

-- no test up to one that decides behind the first holds, where the first does not
passed : {A : Type 0} (x : A) (rows : List (Bool × A)) (k : ℕ) (reason : A) → Decides rows k reason
    → (j : ℕ) (row : Bool × A) → j < suc k → slice_get ((false, x) ∷ rows) j ≡ Some row → row.0 ≡ false
passed {A = A} x rows k reason decides zero row less is =
    ap (λ (r : Bool × A). r.0) (sym (row_is (false, x) row is))
passed x rows k reason decides (suc j) row less is = decides.before j row (omega arith) is

-- by the first row, and by those behind it
found : {A : Type 0} (b : Bool) (x : A) (rows : List (Bool × A)) (reason : A)
    → ((first_of rows ≡ Some reason) → (k : ℕ) × Decides rows k reason)
    → (if b then Some x else first_of rows) ≡ Some reason → (k : ℕ) × Decides ((b, x) ∷ rows) k reason
found {A = A} true x rows reason behind h = (
  0,
  record {
    holds = ap (λ (r : A). Some (true, r)) (row_is x reason h);
    before = λ j row less is. absurd (omega arith);
  },
)
found false x rows reason behind h =
    let rest = behind h in (
      suc rest.0,
      record { holds = rest.1.holds; before = passed x rows rest.0 reason rest.1 },
    )

first_decides : {A : Type 0} (rows : List (Bool × A)) (reason : A) → first_of rows ≡ Some reason
    → (k : ℕ) × Decides rows k reason
first_decides [] reason h = cc
first_decides (row ∷ rows) reason h = found row.0 row.1 rows reason (first_decides rows reason) h

decides_first : {A : Type 0} (rows : List (Bool × A)) (k : ℕ) (reason : A) → Decides rows k reason
    → first_of rows ≡ Some reason
decides_first [] k reason decides = let none = decides.holds in cc
decides_first {A = A} (row ∷ rows) zero reason decides =
    ap (λ (r : Bool × A). if r.0 then Some r.1 else first_of rows) (row_is row (true, reason) decides.holds)
decides_first {A = A} (row ∷ rows) (suc k) reason decides =
    let no : row.0 ≡ false = decides.before 0 row (omega arith) refl in
    ap (λ (b : Bool). if b then Some row.1 else first_of rows) no
    ∙ decides_first rows k reason (record {
      holds = decides.holds;
      before = λ j r less is. decides.before (suc j) r (omega arith) is;
    })

pub gives_first : (A : Type 0) → GivesFirst A
gives_first A rows reason = (first_decides rows reason, λ found. decides_first rows found.0 reason found.1)
