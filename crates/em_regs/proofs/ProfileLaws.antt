-- The rows that a profile has.
use Rattle.std.proofs.Common.{◌≡◌, ℕ, ◌-◌, ◌/◌, Bool, true, false, ◌&&◌, List, [], ◌∷◌, ◌++◌, Option, Some, None, refl}
use Rattle.std.proofs.Common.{ap, sym, ◌∙◌, cond}
use Rattle.std.specs.Prelude.{bit_and}
use Rattle.std.specs.FinMap as map
use Rattle.std.specs.Prelude.{not}
use Rattle.std.proofs.lemmas.Bool.{and_parts}
use Rattle.em_regs.specs.declared.reg.Reg.{Reg}
use Rattle.em_regs.specs.declared.reg.Reg.TheVariants.{Ctrl, Mta, Ral, Rah, Vfta}
use Rattle.em_regs.specs.declared.profile.Profile.{Profile}
use Rattle.em_regs.specs.declared.profile.Profile.TheVariants.{Table}
use Rattle.em_regs.specs.Table.{row_of, with_index, has_word_at, has_reg, kept_by, reg_in, reg_at, reg_of, reg_of_table}
use Rattle.em_regs.specs.Table.{registers_besides, registers_of_table, IsReg, IsRegOf, is_in, kept_bits, offset_of}
use Rattle.em_regs.specs.RegFile.{put, put_in}
use Rattle.em_regs.specs.Storage.{Registers}
use Rattle.em_regs.proofs.TableLaws.{reg_at-offset_of}

-- the registers of a row are of one profile
any_index : (r : Reg) (i : ℕ) → has_reg Table (with_index r i) ≡ has_reg Table r
any_index (Mta _) i = refl
any_index (Ral _) i = refl
any_index (Rah _) i = refl
any_index (Vfta _) i = refl
any_index Ctrl i = refl
any_index _ i = refl

-- all rows are of the first profile, or none is
abbrev all_in : List Reg → Bool
all_in [] = true
all_in (r ∷ rs) = has_reg Table r && all_in rs

abbrev none_in : List Reg → Bool
none_in [] = true
none_in (r ∷ rs) = not (has_reg Table r) && none_in rs

kept : (x : Reg) → has_reg Table x ≡ true → kept_by Table (Some x) ≡ Some x
kept x h = ap (λ b. cond b (Some x) None) h

left : (x : Reg) → has_reg Table x ≡ false → kept_by Table (Some x) ≡ None
left x h = ap (λ b. cond b (Some x) None) h

is_not : (b : Bool) → not b ≡ true → b ≡ false
is_not true h = cc
is_not false h = refl

chosen : (b : Bool) (x y z w : Option Reg) → kept_by Table x ≡ z → kept_by Table y ≡ w
    → kept_by Table (cond b x y) ≡ cond b z w
chosen true x y z w p q = p
chosen false x y z w p q = q

one : (b : Bool) (x : Option Reg) → cond b x x ≡ x
one true x = refl
one false x = refl

kept_in : (rs : List Reg) (o : ℕ) → all_in rs ≡ true → kept_by Table (reg_in rs o) ≡ reg_in rs o
kept_in [] o h = refl
kept_in (r ∷ rs) o h =
    let parts = and_parts (has_reg Table r) (all_in rs) h in
    let i = (o - (row_of r).offset) / (row_of r).spacing in
    chosen (has_word_at (row_of r) o) (Some (with_index r i)) (reg_in rs o) (Some (with_index r i)) (reg_in rs o)
    (kept (with_index r i) (any_index r i ∙ parts.0)) (kept_in rs o parts.1)

left_in : (rs : List Reg) (o : ℕ) → none_in rs ≡ true → kept_by Table (reg_in rs o) ≡ None
left_in [] o h = refl
left_in (r ∷ rs) o h =
    let parts = and_parts (not (has_reg Table r)) (none_in rs) h in
    let i = (o - (row_of r).offset) / (row_of r).spacing in
    chosen (has_word_at (row_of r) o) (Some (with_index r i)) (reg_in rs o) None None
    (left (with_index r i) (any_index r i ∙ is_not _ parts.0)) (left_in rs o parts.1)
    ∙ one (has_word_at (row_of r) o) None

behind : (rs more : List Reg) (o : ℕ) → all_in rs ≡ true → none_in more ≡ true
    → kept_by Table (reg_in (rs ++ more) o) ≡ reg_in rs o
behind [] more o h k = left_in more o k
behind (r ∷ rs) more o h k =
    let parts = and_parts (has_reg Table r) (all_in rs) h in
    let i = (o - (row_of r).offset) / (row_of r).spacing in
    chosen (has_word_at (row_of r) o) (Some (with_index r i)) (reg_in (rs ++ more) o) (Some (with_index r i)) (reg_in rs o)
    (kept (with_index r i) (any_index r i ∙ parts.0)) (behind rs more o parts.1 k)

-- the first profile has the rows of its list
pub table_is_list : (o : ℕ) → reg_of Table o ≡ reg_of_table o
unfolding reg_at reg_of_table
table_is_list o = behind registers_of_table registers_besides o refl refl

-- a register of a profile is found where it lies
pub reg_of-offset_of : (p : Profile) (reg : Reg) → IsReg reg → has_reg p reg ≡ true → reg_of p (offset_of reg) ≡ Some reg
reg_of-offset_of p reg h has = ap (kept_by p) (reg_at-offset_of reg h) ∙ ap (λ b. cond b (Some reg) None) has

-- where a register lies whose row a profile has not, no other of the profile lies
pub none_of_profile : (p : Profile) (o : ℕ) (found : Reg) → Some found ≡ reg_at o
    → is_in (row_of found).since p ≡ false → (reg : Reg) → IsRegOf p reg → offset_of reg ≡ o → ⊥
none_of_profile p o found at out reg has lies =
    let here : Some found ≡ Some reg = at ∙ ap reg_at (sym lies) ∙ reg_at-offset_of reg has.0 in
    let same : found ≡ reg = cc in
    let left : false ≡ has_reg p reg = sym out ∙ ap (has_reg p) same in
    absurd (let e : false ≡ true = left ∙ has.1 in cc)

-- ---- the bits that a profile keeps
same_bits : (narrow : Bool) (mask : ℕ) → kept_bits narrow Table mask ≡ mask
same_bits false mask = refl
same_bits true mask = refl

-- the first profile keeps those of the row's mask
pub put_in_table : (m : Registers) (reg : Reg) (v : ℕ) → put_in Table m reg v ≡ put m reg v
put_in_table m reg v =
    ap (λ (n : ℕ). map.insert m (offset_of reg) (bit_and v n)) (same_bits (row_of reg).narrow (row_of reg).mask)
