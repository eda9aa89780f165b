-- The register that a word names.
use Rattle.std.proofs.Common.{◌≡◌, ◌≤◌, ℕ, ◌+◌, ◌-◌, ◌/◌, ◌<◌, Bool, true, false, cond, List, [], ◌∷◌, length, get_or, map, zero, suc}
use Rattle.std.proofs.Common.{◌&&◌, Option, Some, None, IfSome, find, refl, sym, ◌∙◌, subst, arith}
use Rattle.std.specs.Option.{option_map}
use Rattle.std.specs.List.{range_with_len}
use Rattle.std.proofs.Common.{◌⊎◌, inl, inr}
use Rattle.std.proofs.lemmas.Bool.{and_parts, cases_lt}
use Rattle.std.specs.Char.{to_ascii_lowercase}
use Rattle.std.proofs.lemmas.Slice.Eq.{bytes_eq-Decides}
use Rattle.em_regs.specs.declared.reg.Reg.{Reg}
use Rattle.em_regs.specs.declared.reg.Reg.TheVariants.{Ctrl, Mta, Ral, Rah, Vfta}
use Rattle.em_regs.specs.declared.profile.Profile.{Profile}
use Rattle.em_regs.specs.declared.profile.Profile.TheVariants.{Table, Adapter}
use Rattle.em_regs.specs.Table.{IsReg, IsRegOf, has_reg, has_word_at, index_of, offset_of, reg_at, reg_in, reg_of_table}
use Rattle.em_regs.specs.Table.{row_of, with_index}
use Rattle.em_regs.proofs.TableLaws.{indexed, reg_at-offset_of}
use Rattle.em_regs.proofs.ProfileLaws.{reg_of-offset_of, table_is_list}
use Rattle.em_names.specs.Names.{name_of, IsNamed, SameLetters}
use Rattle.em_prompt.specs.Register.{same_letters, or_else, index_named, named_among, named, rows_of}

-- ---- the test of letters

abbrev lowered : List ℕ → List ℕ
lowered word = map to_ascii_lowercase word

same_true : (a b : List ℕ) → same_letters a b ≡ true → SameLetters a b
same_true a b e = (bytes_eq-Decides (lowered a) (lowered b)).0 e

same_false : (a b : List ℕ) → same_letters a b ≡ false → SameLetters a b → ⊥
same_false a b e h = let t = (bytes_eq-Decides (lowered a) (lowered b)).1 h in cc

-- ---- what is found in a range

pub found_passes : (p : ℕ → Bool) (a n i : ℕ) → find p (range_with_len a n) ≡ Some i → (p i ≡ true) × (i < a + n)
found_passes p a zero i e = cc
found_passes p a (suc n) i e = by_first (p a) refl e (found_passes p (a + 1) n i) where
  by_first : (b : Bool) → p a ≡ b → cond b (Some a) (find p (range_with_len (a + 1) n)) ≡ Some i
      → (find p (range_with_len (a + 1) n) ≡ Some i → (p i ≡ true) × (i < (a + 1) + n))
      → (p i ≡ true) × (i < a + suc n)
  by_first true t e more = let same : a ≡ i = cc in (subst (λ k. p k ≡ true) same t, omega arith)
  by_first false t e more = let rest = more e in (rest.0, omega (arith, rest.1))

at_or_above : (k a : ℕ) → a ≤ k → (k ≡ a) ⊎ (a + 1 ≤ k)
at_or_above k a le = elim (cases_lt a k) [ inl lt ↦ inr (omega arith) | inr ge ↦ inl (omega arith) ]

pub none_passes : (p : ℕ → Bool) (a n : ℕ) → find p (range_with_len a n) ≡ None → (k : ℕ) → a ≤ k → k < a + n
    → p k ≡ false
none_passes p a zero e k from to = let no : ⊥ = omega arith in absurd no
none_passes p a (suc n) e k from to = by_first (p a) refl e (none_passes p (a + 1) n) (at_or_above k a from) where
  by_first : (b : Bool) → p a ≡ b → cond b (Some a) (find p (range_with_len (a + 1) n)) ≡ None
      → (find p (range_with_len (a + 1) n) ≡ None → (j : ℕ) → a + 1 ≤ j → j < (a + 1) + n → p j ≡ false)
      → (k ≡ a) ⊎ (a + 1 ≤ k) → p k ≡ false
  by_first true t e more at = cc
  by_first false t e more (inl same) = subst (λ j. p j ≡ false) (sym same) t
  by_first false t e more (inr above) = more e k above (omega arith)

truth : (b : Bool) → (b ≡ true) ⊎ (b ≡ false)
truth true = inl refl
truth false = inr refl

-- ---- the registers of a row

pub is_reg-with_index : (row : Reg) (i : ℕ) → i < (row_of row).words → IsReg (with_index row i)
is_reg-with_index row i h = let x = indexed row i h in rw (x.row, x.index) h

-- the word names no register of the row
abbrev pub NamesNone : List ℕ → Reg → Type 0
NamesNone word row = (i : ℕ) → i < (row_of row).words → IsNamed word (with_index row i) → ⊥

pub record HasOwnIndex (row reg : Reg) : Type 0 where
  pub within : index_of reg < (row_of row).words
  pub same : with_index row (index_of reg) ≡ reg

-- a register of the row is the one with its index
own_index : (row : Reg) (i : ℕ) → IsReg (with_index row i) → HasOwnIndex row (with_index row i)
own_index (Mta _) i h = record { within = h; same = refl }
own_index (Ral _) i h = record { within = h; same = refl }
own_index (Rah _) i h = record { within = h; same = refl }
own_index (Vfta _) i h = record { within = h; same = refl }
own_index Ctrl i h = record { within = h; same = refl }
own_index _ i h = record { within = h; same = refl }

none_in : (word : List ℕ) (rows : List Reg) → ((k : ℕ) → k < length rows → NamesNone word (get_or rows k Ctrl))
    → (o : ℕ) (reg : Reg) → reg_in rows o ≡ Some reg → IsReg reg → IsNamed word reg → ⊥
none_in word [] none o reg is h n = cc
none_in word (row ∷ rows) none o reg is h n = elim (truth (has_word_at (row_of row) o)) [
  | inl t ↦
      let i = (o - (row_of row).offset) / (row_of row).spacing in
      let here : with_index row i ≡ reg = let e : Some (with_index row i) ≡ Some reg = rw t at is in cc in
      let own = own_index row i (rw here h) in
      none 0 (omega arith) (index_of (with_index row i)) own.within (rw (own.same, here) n)
  | inr t ↦ none_in word rows (λ k lt. none (suc k) (omega arith)) o reg (rw t at is) h n
]

-- a register of a profile is found among its rows
found_there : (p : Profile) (reg : Reg) → IsRegOf p reg → reg_in (rows_of p) (offset_of reg) ≡ Some reg
unfolding reg_at reg_of_table
found_there Table reg h = sym (table_is_list (offset_of reg)) ∙ reg_of-offset_of Table reg h.0 h.1
found_there Adapter reg h = reg_at-offset_of reg h.0

-- where the word names no register of any row of a profile, it names none of that profile
pub names_none : (p : Profile) (word : List ℕ)
    → ((k : ℕ) → k < length (rows_of p) → NamesNone word (get_or (rows_of p) k Ctrl))
    → (reg : Reg) → IsRegOf p reg → IsNamed word reg → ⊥
names_none p word none reg h n = none_in word (rows_of p) none (offset_of reg) reg (found_there p reg h) h.0 n

-- ---- the rows

-- the rows are of a profile
abbrev all_in : Profile → List Reg → Bool
all_in p [] = true
all_in p (row ∷ rows) = has_reg p row && all_in p rows

-- so are a profile's own
all_its_own : (p : Profile) → all_in p (rows_of p) ≡ true
all_its_own Table = refl
all_its_own Adapter = refl

-- so is every register of a row that is
any_index : (p : Profile) (row : Reg) (i : ℕ) → has_reg p (with_index row i) ≡ has_reg p row
any_index p (Mta _) i = refl
any_index p (Ral _) i = refl
any_index p (Rah _) i = refl
any_index p (Vfta _) i = refl
any_index p Ctrl i = refl
any_index p _ i = refl

-- the register that is found is one of the profile, and has the word as its name
named_sound : (p : Profile) (word : List ℕ) (rows : List Reg) (reg : Reg) → all_in p rows ≡ true
    → named_among word rows ≡ Some reg → IsRegOf p reg × IsNamed word reg
named_sound p word [] reg all e = cc
named_sound p word (row ∷ rows) reg all e =
    by_index (index_named word row) refl e (named_sound p word rows reg parts.1) where
      parts : (has_reg p row ≡ true) × (all_in p rows ≡ true)
      parts = and_parts (has_reg p row) (all_in p rows) all

      by_index : (o : Option ℕ) → index_named word row ≡ o
          → or_else (option_map (with_index row) o) (named_among word rows) ≡ Some reg
          → (named_among word rows ≡ Some reg → IsRegOf p reg × IsNamed word reg) → IsRegOf p reg × IsNamed word reg
      by_index None o e more = more e
      by_index (Some i) o e more =
          let found = found_passes (λ k. same_letters word (name_of (with_index row k))) 0 (row_of row).words i o in
          let same : with_index row i ≡ reg = cc in
          subst (λ r. IsRegOf p r × IsNamed word r) same (
            (is_reg-with_index row i (omega (arith, found.1)), any_index p row i ∙ parts.0),
            same_true word (name_of (with_index row i)) found.0,
          )

-- where none is found, no row has one of this name
named_none : (word : List ℕ) (rows : List Reg) → named_among word rows ≡ None → (k : ℕ) → k < length rows
    → NamesNone word (get_or rows k Ctrl)
named_none word [] e k lt = let no : ⊥ = omega arith in absurd no
named_none word (row ∷ rows) e k lt = by_index (index_named word row) refl e (named_none word rows) k lt where
  by_index : (o : Option ℕ) → index_named word row ≡ o
      → or_else (option_map (with_index row) o) (named_among word rows) ≡ None
      → (named_among word rows ≡ None → (j : ℕ) → j < length rows → NamesNone word (get_or rows j Ctrl))
      → (j : ℕ) → j < length (row ∷ rows) → NamesNone word (get_or (row ∷ rows) j Ctrl)
  by_index (Some i) o e more j lt = cc
  by_index None o e more zero lt = λ i below h.
      same_false word (name_of (with_index row i))
      (none_passes (λ j. same_letters word (name_of (with_index row j))) 0 (row_of row).words o i (omega arith) (omega arith))
      h
  by_index None o e more (suc j) lt = more e j (omega arith)

-- what is read of a name is the register that it names
pub named_is : (p : Profile) (word : List ℕ) (result : Option Reg)
    → IfSome result (λ reg. IsRegOf p reg × IsNamed word reg)
    → ((reg : Reg) → IsRegOf p reg → IsNamed word reg → result ≡ Some reg) → result ≡ named p word
unfolding named
named_is p word result some every = by_found (named_among word (rows_of p)) refl where
  no_other : (result : Option Reg) → IfSome result (λ reg. IsRegOf p reg × IsNamed word reg)
      → named_among word (rows_of p) ≡ None → result ≡ None
  no_other None some e = refl
  no_other (Some reg) some e = absurd (names_none p word (named_none word (rows_of p) e) reg some.0 some.1)

  by_found : (found : Option Reg) → named_among word (rows_of p) ≡ found
      → result ≡ named_among word (rows_of p)
  by_found (Some reg) e =
      let it = named_sound p word (rows_of p) reg (all_its_own p) e in every reg it.0 it.1 ∙ sym e
  by_found None e = no_other result some e ∙ sym e
