-- What an event did, from what was traced before it and after it.
use Rattle.std.proofs.Common.{◌≡◌, ℕ, ◌+◌, ◌-◌, ◌%◌, ◌<◌, ◌⊎◌, inl, inr, Some, None, true, cond, refl, sym, ap, ◌∙◌, subst, arith}
use Rattle.std.specs.Prelude.{◌≢◌, Option, IfNone}
use Rattle.std.proofs.lemmas.Bool.{cases_lt}
use Rattle.std.proofs.lemmas.Bool.Decides.{nat_tests}
use Rattle.em_regs.specs.declared.reg.Reg.{Reg}
use Rattle.em_regs.specs.declared.profile.Profile.TheVariants.{Adapter, Table}
use Rattle.em_regs.specs.Table.{IsReg, NoneFrom, is_in, kept_by, offset_of, reg_at, reg_of, row_of}
use Rattle.em_regs.specs.declared.profile.Profile.{Profile}
use Rattle.em_regs.proofs.TableLaws.{reg_at-offset_of, whole_word}
use Rattle.em_journal.specs.View.{View}
use Rattle.em_watch.specs.Difference.{IsDifference, LeavesAsItIs, LeavesOffset, LeavesRegisters}
use Rattle.em_watch.specs.Traced.{IsTraced, shown}
use Rattle.em_watch.specs.declared.watch.Watch.{Watch}
use Rattle.em_watch.specs.declared.watch.Watch.TheVariants.{Register}
use Rattle.em_watch.specs.declared.watch.Sight.{Sight}
use Rattle.em_watch.specs.declared.traced.Traced.{Traced}
use Rattle.em_watch.proofs.TracedLaws.{seen_there}

pub difference : (w : Watch) (v : View) (back : ℕ) (before after : Traced) (x y : Sight)
    → IsTraced w v back before → IsTraced w v (back - 1) after → x ≡ shown before → y ≡ shown after → x ≢ y
    → IsDifference w v back (record { before = x; after = y })
difference w v back before after x y was is x_is y_is other = record {
  before = seen_there w v back before was ∙ ap Some (sym x_is);
  after = seen_there w v (back - 1) after is ∙ ap Some (sym y_is);
  differ = other;
}

pub the_same : (w : Watch) (v : View) (back : ℕ) (before after : Traced) (x y : Sight)
    → IsTraced w v back before → IsTraced w v (back - 1) after → x ≡ shown before → y ≡ shown after → x ≡ y
    → LeavesAsItIs w v back
the_same w v back before after x y was is x_is y_is same =
    seen_there w v back before was ∙ ap Some (sym x_is ∙ same ∙ y_is) ∙ sym (seen_there w v (back - 1) after is)

-- ---- the register at an offset

-- the second profile has every row
has_each : (p : Profile) → is_in p Adapter ≡ true
has_each Table = refl
has_each Adapter = refl

keeps_each : (found : Option Reg) → kept_by Adapter found ≡ found
keeps_each None = refl
keeps_each (Some reg) = ap (λ b. cond b (Some reg) None) (has_each (row_of reg).since)

adapter_is_all : (o : ℕ) → reg_of Adapter o ≡ reg_at o
adapter_is_all o = keeps_each (reg_at o)

register_is : (o : ℕ) (reg other : Reg) → Some reg ≡ reg_of Adapter o → IsReg other → offset_of other ≡ o → reg ≡ other
register_is o reg other found named there =
    let same : Some reg ≡ Some other = found ∙ adapter_is_all o ∙ ap reg_at (sym there) ∙ reg_at-offset_of other named in
    cc

pub leaves_offset : (v : View) (back o : ℕ) (reg : Reg) → Some reg ≡ reg_of Adapter o → LeavesAsItIs (Register reg) v back
    → LeavesOffset v back o
leaves_offset v back o reg found stays other named there =
    subst (λ r. LeavesAsItIs (Register r) v back) (register_is o reg other found named there) stays

pub none_is : {A : Type 0} (r : Option A) (P : Type 0) → P → IfNone r P
none_is None P p = p
none_is (Some x) P p = tt

below_or_last : (i k : ℕ) → i < k + 1 → (i < k) ⊎ (i ≡ k)
below_or_last i k l = grind (arith, nat_tests)

-- no register lies at an offset where the table has none
pub leaves_bare : (v : View) (back from below : ℕ) → NoneFrom from below → LeavesRegisters v back from below
leaves_bare v back from below none o l m reg named there =
    absurd (let found : reg_at o ≡ Some reg = ap reg_at (sym there) ∙ reg_at-offset_of reg named in
    let bare = none o l m in cc)

-- nor between two words
pub leaves_within : (v : View) (back from to : ℕ) → to % 4 ≡ 0 → to < from + 4 → LeavesRegisters v back from to
leaves_within v back from to whole near o l m reg named there =
    absurd (let word = whole_word reg in omega (arith, word, there, whole, near, l, m))

pub leaves_both : (v : View) (back from mid below : ℕ) → LeavesRegisters v back from mid
    → LeavesRegisters v back mid below → LeavesRegisters v back from below
leaves_both v back from mid below one other o l m =
    elim (cases_lt o mid) [ inl lt ↦ one o l lt | inr ge ↦ other o ge m ]

leaves_more : (v : View) (back from o : ℕ) → LeavesRegisters v back from o → LeavesOffset v back o
    → LeavesRegisters v back from (o + 1)
leaves_more v back from o before here i l m =
    elim (below_or_last i o m) [
      | inl lt ↦ before i l lt
      | inr e ↦ subst (LeavesOffset v back) (sym e) here
    ]

-- the whole word at an offset
pub leaves_word : (v : View) (back from o : ℕ) → o % 4 ≡ 0 → LeavesRegisters v back from o → LeavesOffset v back o
    → LeavesRegisters v back from (o + 4)
leaves_word v back from o whole before here =
    leaves_both v back from (o + 1) (o + 4) (leaves_more v back from o before here)
    (leaves_within v back (o + 1) (o + 4) (omega (arith, whole)) (omega arith))
