-- The steps of registers, by offset.
use Rattle.std.proofs.Common.{◌≡◌, ◌∙◌, ℕ, ◌+◌, ◌-◌, ◌<◌, ◌≤◌, inl, inr, Bool, true, false, ◌&&◌, cond, List, [], ◌∷◌}
use Rattle.std.proofs.Common.{Option, Some, None, refl, sym, ap, subst, arith, ne_eqb}
use Rattle.std.specs.Prelude.{nat_eq, nat_lt, map, slice_get}
use Rattle.std.specs.Option.{option_map}
use Rattle.std.specs.Iterator.{Yields}
use Rattle.std.proofs.lemmas.Bool.{cases_lt}
use Rattle.std.proofs.lemmas.Bool.Decides.{nat_tests}
use Rattle.em_regs.specs.declared.profile.Profile.{Profile}
use Rattle.em_regs.specs.declared.reg.Reg.{Reg}
use Rattle.em_regs.specs.Table.{IsReg, IsRegOf, has_reg, index_of, kept_by, offset_of, reg_at, reg_of, row_of}
use Rattle.em_regs.proofs.ProfileLaws.{reg_of-offset_of}
use Rattle.em_regs.proofs.TableLaws.{found_lies, below_space}
use Rattle.em_step.specs.State.{State}
use Rattle.em_step.specs.Access.{gives}
use Rattle.em_journal.specs.View.{View, states}
use Rattle.em_watch.specs.Difference.{IsRegisterChange, LeavesOffset}
use Rattle.em_watch.specs.RegisterSearch.{GivesRegister, RegisterSearch}
use Rattle.em_watch.specs.Watching.{sight}
use Rattle.em_watch.specs.declared.registers.RegisterChange.{RegisterChange}
use Rattle.em_watch.specs.declared.watch.Watch.TheVariants.{Register}
use Rattle.em_watch.specs.declared.watch.Sight.{Sight}
use Rattle.em_watch.specs.declared.watch.Sight.TheVariants as sight
use Rattle.em_recording.specs.Effects.{AreRegisterSteps, register_step, value_in}
use Rattle.em_recording.specs.Steps.{value_at}
use Rattle.em_recording.specs.declared.recorded.RegisterStep.{RegisterStep}
use Rattle.em_recording.proofs.ThingLaws.{left_sight, seen_is}

-- ---- what is seen of a register
sight_if : (s : State) (reg : Reg) (b : Bool) → nat_lt (index_of reg) (row_of reg).words ≡ b → IsRegOf s.profile reg
    → cond (b && has_reg s.profile reg) (sight.Value (gives s reg)) sight.Nothing ≡ sight.Value (gives s reg)
sight_if s reg true is named = ap (λ x. cond x (sight.Value (gives s reg)) sight.Nothing) named.1
sight_if s reg false is named = absurd (let index = named.0 in grind (arith, nat_tests))

pub register_seen : (s : State) (reg : Reg) → IsRegOf s.profile reg → sight (Register reg) s ≡ sight.Value (gives s reg)
register_seen s reg named = sight_if s reg (nat_lt (index_of reg) (row_of reg).words) refl named

pub value_seen : (s : State) (reg : Reg) → IsRegOf s.profile reg → value_in (sight (Register reg) s) ≡ gives s reg
value_seen s reg named = ap value_in (register_seen s reg named)

unseen_if : (a b : Bool) (x : Sight) → b ≡ false → cond (a && b) x sight.Nothing ≡ sight.Nothing
unseen_if true b x none = ap (λ y. cond y x sight.Nothing) none
unseen_if false b x none = refl

-- of one that the profile has not nothing is seen
register_unseen : (s : State) (reg : Reg) → has_reg s.profile reg ≡ false → sight (Register reg) s ≡ sight.Nothing
register_unseen s reg none =
    unseen_if (nat_lt (index_of reg) (row_of reg).words) (has_reg s.profile reg) (sight.Value (gives s reg)) none

-- ---- the register of a profile at an offset
some_reg : (x y : Reg) → Some x ≡ Some y → x ≡ y
some_reg x y h = cc

kept_if : (p : Profile) (r reg : Reg) (b : Bool) → has_reg p r ≡ b → cond b (Some r) None ≡ Some reg
    → (Some r ≡ Some reg) × (has_reg p reg ≡ true)
kept_if p r reg true is h = (h, subst (λ x. has_reg p x ≡ true) (some_reg r reg h) is)
kept_if p r reg false is h = absurd (cc)

kept_is : (p : Profile) (found : Option Reg) (reg : Reg) → kept_by p found ≡ Some reg
    → (found ≡ Some reg) × (has_reg p reg ≡ true)
kept_is p None reg h = absurd (cc)
kept_is p (Some r) reg h = kept_if p r reg (has_reg p r) refl h

found_in : (p : Profile) (o : ℕ) (reg : Reg) → reg_of p o ≡ Some reg → IsRegOf p reg × (offset_of reg ≡ o)
found_in p o reg h =
    let kept = kept_is p (reg_at o) reg h in
    let lies = found_lies (Some reg) o (sym kept.0) in
    ((lies.0, kept.1), lies.1)

-- ---- a test of a step's offset
at_if : (read : RegisterStep → ℕ) (step : RegisterStep) (steps : List RegisterStep) (o : ℕ) (other : Option ℕ)
    → (b : Bool) → nat_eq (offset_of step.reg) o ≡ b
    → value_at read (step ∷ steps) o other ≡ cond b (Some (read step)) (value_at read steps o other)
at_if read step steps o other b is = ap (λ x. cond x (Some (read step)) (value_at read steps o other)) is

lies_elsewhere : (x y : ℕ) → y < x → nat_eq x y ≡ false
lies_elsewhere x y l = ne_eqb x y (λ e. absurd (omega (arith, l, e)))

lies_before : (x y : ℕ) → x < y → nat_eq x y ≡ false
lies_before x y l = ne_eqb x y (λ e. absurd (omega (arith, l, e)))

lies_there : (x y : ℕ) → x ≡ y → nat_eq x y ≡ true
lies_there x y e = grind (arith, nat_tests)

module _ (v : View) (back : ℕ) (p : Profile) (from to : State) (read : RegisterStep → ℕ)
    (has : (change : RegisterChange) → IsRegisterChange v back change → has_reg p change.reg ≡ true)
    (told : (change : RegisterChange) → IsRegisterChange v back change
    → read (register_step change) ≡ gives to change.reg)
    (left : (reg : Reg) → IsRegOf p reg → LeavesOffset v back (offset_of reg) → gives from reg ≡ gives to reg) where
  -- no step lies before where the search began
  missed : (changes : List RegisterChange) (first o : ℕ) (t : RegisterSearch) (other : Option ℕ)
      → Yields GivesRegister (record { view = v; back = back; offset = first }) changes t → o < first
      → value_at read (map register_step changes) o other ≡ other
  missed [] first o t other yields below = refl
  missed (change ∷ changes) first o t other yields below =
      let next = yields.1 in
      let at : first ≤ offset_of change.reg = next.0.from in
      let rest = subst (λ (j : RegisterSearch). Yields GivesRegister j changes t) next.1 yields.2 in
      at_if read (register_step change) (map register_step changes) o other false
      (lies_elsewhere (offset_of change.reg) o (omega (arith, at, below)))
      ∙ missed changes (offset_of change.reg + 1) o t other rest (omega (arith, at, below))

  register_left : (o : ℕ) (reg : Reg) → reg_of p o ≡ Some reg → IsRegOf p reg → offset_of reg ≡ o → LeavesOffset v back o
      → option_map (gives from) (reg_of p o) ≡ option_map (gives to) (reg_of p o)
  register_left o reg found named lies leaves =
      ap (option_map (gives from)) found
      ∙ ap Some (left reg named (subst (LeavesOffset v back) (sym lies) leaves))
      ∙ sym (ap (option_map (gives to)) found)

  told_there : (o : ℕ) (change : RegisterChange) → IsRegisterChange v back change → offset_of change.reg ≡ o
      → Some (read (register_step change)) ≡ option_map (gives to) (reg_of p o)
  told_there o change changed lies =
      ap Some (told change changed)
      ∙ sym (ap (option_map (gives to)) (ap (reg_of p) (sym lies)
      ∙ reg_of-offset_of p change.reg changed.register (has change changed)))

  -- the value at an offset from where the search began
  found_from : (changes : List RegisterChange) (first o : ℕ) (t u : RegisterSearch) (reg : Reg)
      → Yields GivesRegister (record { view = v; back = back; offset = first }) changes t → GivesRegister t None u
      → first ≤ o → o < 0x06000 → reg_of p o ≡ Some reg → IsRegOf p reg → offset_of reg ≡ o
      → value_at read (map register_step changes) o (option_map (gives from) (reg_of p o))
      ≡ option_map (gives to) (reg_of p o)
  found_from [] first o t u reg yields last here below found named lies =
      let ended = subst (λ (j : RegisterSearch). GivesRegister j None u) (sym yields) last in
      register_left o reg found named lies (ended.0 o here below)
  found_from (change ∷ changes) first o t u reg yields last here below found named lies =
      let next = yields.1 in
      let at : ℕ = offset_of change.reg in
      let rest = subst (λ (j : RegisterSearch). Yields GivesRegister j changes t) next.1 yields.2 in
      let other : Option ℕ = option_map (gives from) (reg_of p o) in
      let step : RegisterStep = register_step change in
      let steps : List RegisterStep = map register_step changes in
      elim (cases_lt o at) [
        | inl before ↦ at_if read step steps o other false (lies_elsewhere at o (omega (arith, before)))
            ∙ missed changes (at + 1) o t other rest (omega (arith, before))
            ∙ register_left o reg found named lies (next.0.first o here before)
        | inr behind ↦ elim (cases_lt at o) [
          | inl past ↦ at_if read step steps o other false (lies_before at o past)
              ∙ found_from changes (at + 1) o t u reg rest last (omega (arith, past)) below found named lies
          | inr there ↦ at_if read step steps o other true (lies_there at o (omega (arith, behind, there)))
              ∙ told_there o change next.0.changed (omega (arith, behind, there))
        ]
      ]

  -- no step lies where no register does
  none_there : (changes : List RegisterChange) (first o : ℕ) (t : RegisterSearch)
      → Yields GivesRegister (record { view = v; back = back; offset = first }) changes t → reg_of p o ≡ None
      → value_at read (map register_step changes) o None ≡ None
  none_there [] first o t yields bare = refl
  none_there (change ∷ changes) first o t yields bare =
      let next = yields.1 in
      let rest = subst (λ (j : RegisterSearch). Yields GivesRegister j changes t) next.1 yields.2 in
      let apart : offset_of change.reg ≡ o → ⊥
      = λ e. let found : reg_of p o ≡ Some change.reg
      = ap (reg_of p) (sym e)
      ∙ reg_of-offset_of p change.reg next.0.changed.register (has change next.0.changed) in cc in
      at_if read (register_step change) (map register_step changes) o None false (ne_eqb _ _ apart)
      ∙ none_there changes (offset_of change.reg + 1) o t rest bare

  value_by : (changes : List RegisterChange) (o : ℕ) (t u : RegisterSearch) (at : Option Reg) → reg_of p o ≡ at
      → Yields GivesRegister (record { view = v; back = back; offset = 0 }) changes t → GivesRegister t None u
      → value_at read (map register_step changes) o (option_map (gives from) (reg_of p o))
      ≡ option_map (gives to) (reg_of p o)
  value_by changes o t u None bare yields last =
      ap (λ x. value_at read (map register_step changes) o (option_map (gives from) x)) bare
      ∙ none_there changes 0 o t yields bare ∙ sym (ap (option_map (gives to)) bare)
  value_by changes o t u (Some reg) found yields last =
      let lies = found_in p o reg found in
      found_from changes 0 o t u reg yields last (omega arith)
      (subst (λ x. x < 0x06000) lies.1 (below_space reg lies.0.0)) found lies.0 lies.1

  pub value_is : (steps : List RegisterStep) (o : ℕ) → AreRegisterSteps v back steps
      → value_at read steps o (option_map (gives from) (reg_of p o)) ≡ option_map (gives to) (reg_of p o)
  value_is steps o are =
      ap (λ x. value_at read x o (option_map (gives from) (reg_of p o))) are.each
      ∙ value_by are.changes o are.all.1.0 are.all.0 (reg_of p o) refl are.all.1.1 are.all.1.2

module _ (v : View) (back : ℕ) (before after : State) (was : slice_get (states v) back ≡ Some before)
    (is : slice_get (states v) (back - 1) ≡ Some after) (same : after.profile ≡ before.profile) where
  -- of one that the profile has not nothing is seen in either state
  has_by : (change : RegisterChange) (b : Bool) → has_reg before.profile change.reg ≡ b
      → IsRegisterChange v back change → b ≡ true
  has_by change true none changed = refl
  has_by change false none changed =
      absurd (changed.difference.differ
      (seen_is (Register change.reg) v back before change.difference.before was changed.difference.before
      ∙ register_unseen before change.reg none
      ∙ sym (register_unseen after change.reg (ap (λ p. has_reg p change.reg) same ∙ none))
      ∙ sym (seen_is (Register change.reg) v (back - 1) after change.difference.after is changed.difference.after)))

  has : (change : RegisterChange) → IsRegisterChange v back change → has_reg before.profile change.reg ≡ true
  has change changed = has_by change (has_reg before.profile change.reg) refl changed

  in_after : (reg : Reg) → IsRegOf before.profile reg → IsRegOf after.profile reg
  in_after reg named = subst (λ p. IsRegOf p reg) (sym same) named

  was_value : (change : RegisterChange) → IsRegisterChange v back change
      → (register_step change).before ≡ gives before change.reg
  was_value change changed =
      ap value_in (seen_is (Register change.reg) v back before change.difference.before was changed.difference.before)
      ∙ value_seen before change.reg (changed.register, has change changed)

  is_value : (change : RegisterChange) → IsRegisterChange v back change
      → (register_step change).after ≡ gives after change.reg
  is_value change changed =
      ap value_in (seen_is (Register change.reg) v (back - 1) after change.difference.after is changed.difference.after)
      ∙ value_seen after change.reg (in_after change.reg (changed.register, has change changed))

  stays : (reg : Reg) → IsRegOf before.profile reg → LeavesOffset v back (offset_of reg)
      → gives before reg ≡ gives after reg
  stays reg named leaves =
      sym (value_seen before reg named)
      ∙ ap value_in (left_sight v back before after was is (Register reg) (leaves reg named.0 refl))
      ∙ value_seen after reg (in_after reg named)

  pub registers_after : (steps : List RegisterStep) (o : ℕ) → AreRegisterSteps v back steps
      → value_at (λ step. step.after) steps o (option_map (gives before) (reg_of before.profile o))
      ≡ option_map (gives after) (reg_of after.profile o)
  registers_after steps o are =
      value_is v back before.profile before after (λ step. step.after) has is_value stays steps o are
      ∙ ap (λ p. option_map (gives after) (reg_of p o)) (sym same)

  pub registers_before : (steps : List RegisterStep) (o : ℕ) → AreRegisterSteps v back steps
      → value_at (λ step. step.before) steps o (option_map (gives after) (reg_of after.profile o))
      ≡ option_map (gives before) (reg_of before.profile o)
  registers_before steps o are =
      ap (λ p. value_at (λ step. step.before) steps o (option_map (gives after) (reg_of p o))) same
      ∙ value_is v back before.profile after before (λ step. step.before) has was_value
      (λ reg named leaves. sym (stays reg named leaves)) steps o are
