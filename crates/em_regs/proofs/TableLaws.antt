-- The table of registers, read in both directions.
use Rattle.std.proofs.Common.{◌≡◌, ℕ, zero, suc, ◌+◌, ◌*◌, ◌<◌, ◌≤◌, ◌-◌, ◌/◌, ◌%◌, Bool, true, false, ◌&&◌, ◌==◌}
use Rattle.std.proofs.Common.{◌⊎◌, inl, inr, List, [], ◌∷◌, Option, Some, None, refl, sym, ap, ◌∙◌, subst, arith}
use Rattle.std.proofs.Common.{slice_index_or, length, nat_lt, nat_le, leb-true, eqb-true}
use Rattle.std.specs.Prelude.{IfSome, IfNone, is_some}
use Rattle.std.proofs.lemmas.Bool.{and_parts, cases_eq}
use Rattle.std.proofs.lemmas.Bool.Decides.{nat_tests}
use Rattle.em_regs.specs.declared.reg.Reg.{Reg}
use Rattle.em_regs.specs.declared.reg.Reg.TheVariants.{Ctrl, Mta, Ral, Rah, Vfta}
use Rattle.em_regs.specs.declared.table.Row.{Row}
use Rattle.em_regs.specs.declared.table.TheConstants.{PAGES, PAGE_AT}
use Rattle.em_regs.specs.Table.{IsReg, row_of, index_of, with_index, offset_of, has_word_at, reg_in, registers}
use Rattle.em_regs.specs.Table.{reg_at, NoneFrom}

-- ---- two functions agree below n, where their first n values are computed and compared
abbrev pub firsts : {X : Type 0} → (ℕ → X) → ℕ → List X
firsts f zero = []
firsts f (suc n) = f n ∷ firsts f n

abbrev head_or : {X : Type 0} → X → List X → X
head_or d [] = d
head_or d (x ∷ xs) = x

abbrev rest : {X : Type 0} → List X → List X
rest [] = []
rest (x ∷ xs) = xs

pub same_below : {X : Type 0} (f g : ℕ → X) (n : ℕ) → firsts f n ≡ firsts g n → (i : ℕ) → i < n → f i ≡ g i
same_below f g zero e i h = absurd (omega arith)
same_below f g (suc n) e i h = elim (cases_eq i n) [
  | inl is ↦ ap f is ∙ ap (head_or (f n)) e ∙ sym (ap g is)
  | inr apart ↦ same_below f g n (ap rest e) i (omega arith)
]

truth : (b : Bool) → (b ≡ true) ⊎ (b ≡ false)
truth true = inl refl
truth false = inr refl

-- ---- the words of a row
zero_only : (i : ℕ) → i < 1 → 0 ≡ i
zero_only i h = omega arith

pub record Indexed (r : Reg) (i : ℕ) : Type 0 where
  pub row : row_of (with_index r i) ≡ row_of r
  pub index : index_of (with_index r i) ≡ i

-- a row's register with an index below the row's words is of the row, and has the index
pub indexed : (r : Reg) (i : ℕ) → i < (row_of r).words → Indexed r i
indexed (Mta _) i h = record { row = refl; index = refl }
indexed (Ral _) i h = record { row = refl; index = refl }
indexed (Rah _) i h = record { row = refl; index = refl }
indexed (Vfta _) i h = record { row = refl; index = refl }
indexed Ctrl i h = record { row = refl; index = zero_only i h }
indexed _ i h = record { row = refl; index = zero_only i h }

pub spaced : (r : Reg) → ((row_of r).spacing ≡ 4) ⊎ ((row_of r).spacing ≡ 8)
spaced (Ral _) = inr refl
spaced (Rah _) = inr refl
spaced Ctrl = inl refl
spaced _ = inl refl

by_four : (off n o : ℕ) → (nat_le off o && nat_lt (o - off) (4 * n) && ((o - off) % 4) == 0) ≡ true
    → ((o - off) / 4 < n) × (off + 4 * ((o - off) / 4) ≡ o)
by_four off n o h =
    let outer = and_parts (nat_le off o && nat_lt (o - off) (4 * n)) (((o - off) % 4) == 0) h in
    let inner = and_parts (nat_le off o) (nat_lt (o - off) (4 * n)) outer.0 in
    let low : off ≤ o = leb-true off o inner.0 in
    let within : o - off < 4 * n = grind (arith, nat_tests, inner.1) in
    let whole : (o - off) % 4 ≡ 0 = eqb-true _ _ outer.1 in
    (omega arith, omega arith)

by_eight : (off n o : ℕ) → (nat_le off o && nat_lt (o - off) (8 * n) && ((o - off) % 8) == 0) ≡ true
    → ((o - off) / 8 < n) × (off + 8 * ((o - off) / 8) ≡ o)
by_eight off n o h =
    let outer = and_parts (nat_le off o && nat_lt (o - off) (8 * n)) (((o - off) % 8) == 0) h in
    let inner = and_parts (nat_le off o) (nat_lt (o - off) (8 * n)) outer.0 in
    let low : off ≤ o = leb-true off o inner.0 in
    let within : o - off < 8 * n = grind (arith, nat_tests, inner.1) in
    let whole : (o - off) % 8 ≡ 0 = eqb-true _ _ outer.1 in
    (omega arith, omega arith)

abbrev Lies : ℕ → ℕ → ℕ → ℕ → Type 0
Lies off n o s = (nat_le off o && nat_lt (o - off) (s * n) && ((o - off) % s) == 0) ≡ true
    → ((o - off) / s < n) × (off + s * ((o - off) / s) ≡ o)

word_lies : (off s n o : ℕ) → (s ≡ 4) ⊎ (s ≡ 8) → Lies off n o s
word_lies off s n o (inl e) = subst (Lies off n o) (sym e) (by_four off n o)
word_lies off s n o (inr e) = subst (Lies off n o) (sym e) (by_eight off n o)

-- what the table has at an offset lies there
pub reg_in_lies : (rs : List Reg) (o : ℕ) → IfSome (reg_in rs o) (λ reg. IsReg reg × (offset_of reg ≡ o))
reg_in_lies [] o = tt
reg_in_lies (r ∷ rs) o = elim (truth (has_word_at (row_of r) o)) [
  | inl t ↦
      let row = row_of r in
      let w = word_lies row.offset row.spacing row.words o (spaced r) t in
      let x = indexed r ((o - row.offset) / row.spacing) w.0 in
      rw (t, x.row, x.index) w
  | inr t ↦ rw t (reg_in_lies rs o)
]

-- ---- a register is found where it lies
pub reg_at-offset_of : (reg : Reg) → IsReg reg → reg_at (offset_of reg) ≡ Some reg
unfolding reg_at
reg_at-offset_of (Mta i) h = same_below (λ k. reg_at (offset_of (Mta k))) (λ k. Some (Mta k)) 128 refl i h
reg_at-offset_of (Ral i) h = same_below (λ k. reg_at (offset_of (Ral k))) (λ k. Some (Ral k)) 16 refl i h
reg_at-offset_of (Rah i) h = same_below (λ k. reg_at (offset_of (Rah k))) (λ k. Some (Rah k)) 16 refl i h
reg_at-offset_of (Vfta i) h = same_below (λ k. reg_at (offset_of (Vfta k))) (λ k. Some (Vfta k)) 128 refl i h
reg_at-offset_of Ctrl h = refl
reg_at-offset_of _ h = refl

-- ---- the pages
abbrev pub page_at : ℕ → ℕ
page_at o = slice_index_or PAGE_AT (o / 64) 0

abbrev pub entry_in : ℕ → ℕ → Option Reg
entry_in page word = slice_index_or (slice_index_or PAGES page []) word None

abbrev pub entry_of : ℕ → Option Reg
entry_of o = entry_in (page_at o) ((o / 4) % 16)

-- each number below n passes
abbrev pub all_below : (ℕ → Bool) → ℕ → Bool
all_below p zero = true
all_below p (suc n) = p n && all_below p n

all_below-at : (p : ℕ → Bool) (n : ℕ) → all_below p n ≡ true → (i : ℕ) → i < n → p i ≡ true
all_below-at p zero h i lt = absurd (omega arith)
all_below-at p (suc n) h i lt =
    let parts = and_parts (p n) (all_below p n) h in
    elim (cases_eq i n) [
      | inl is ↦ ap p is ∙ parts.0
      | inr apart ↦ all_below-at p n parts.1 i (omega arith)
    ]

pub page_is_there : (k : ℕ) → k < 384 → slice_index_or PAGE_AT k 0 < length PAGES
page_is_there k h =
    let t : nat_lt (slice_index_or PAGE_AT k 0) (length PAGES) ≡ true = all_below-at
    (λ i. nat_lt (slice_index_or PAGE_AT i 0) (length PAGES)) 384 refl k h in
    grind (arith, nat_tests, t)

-- the page at the k-th 64 octets has each of its registers at the word where it lies
abbrev is_reg : Reg → Bool
is_reg reg = nat_lt (index_of reg) (row_of reg).words

abbrev lies : ℕ → ℕ → Option Reg → Bool
lies k word None = true
lies k word (Some reg) = is_reg reg && offset_of reg == 64 * k + 4 * word

abbrev page_lies : ℕ → List (Option Reg) → Bool
page_lies k page = all_below (λ word. lies k word (slice_index_or page word None)) 16

abbrev pages_lie : ℕ → Bool
pages_lie k = page_lies k (slice_index_or PAGES (slice_index_or PAGE_AT k 0) [])

each_lies : (k : ℕ) → k < 384 → pages_lie k ≡ true
each_lies = all_below-at pages_lie 384 refl

lies_there : (o : ℕ) (found : Option Reg) → o % 4 ≡ 0 → lies (o / 64) ((o / 4) % 16) found ≡ true
    → IfSome found (λ reg. IsReg reg × (offset_of reg ≡ o))
lies_there o None whole t = tt
lies_there o (Some reg) whole t =
    let parts = and_parts (is_reg reg) (offset_of reg == 64 * (o / 64) + 4 * ((o / 4) % 16)) t in
    let at : 64 * (o / 64) + 4 * ((o / 4) % 16) ≡ o = omega (arith, whole) in
    (grind (arith, nat_tests, parts.0), eqb-true _ _ parts.1 ∙ at)

entry_lies : (o : ℕ) → o < 0x06000 → o % 4 ≡ 0 → IfSome (entry_of o) (λ reg. IsReg reg × (offset_of reg ≡ o))
entry_lies o within whole =
    let k = o / 64 in
    let all : pages_lie k ≡ true = each_lies k (omega arith) in
    let one : lies k ((o / 4) % 16) (entry_of o) ≡ true = all_below-at
    (λ word. lies k word (slice_index_or (slice_index_or PAGES (slice_index_or PAGE_AT k 0) []) word None)) 16 all
    ((o / 4) % 16) (omega arith) in
    lies_there o (entry_of o) whole one

entry_of-offset_of : (reg : Reg) → IsReg reg → entry_of (offset_of reg) ≡ Some reg
entry_of-offset_of (Mta i) h = same_below (λ k. entry_of (offset_of (Mta k))) (λ k. Some (Mta k)) 128 refl i h
entry_of-offset_of (Ral i) h = same_below (λ k. entry_of (offset_of (Ral k))) (λ k. Some (Ral k)) 16 refl i h
entry_of-offset_of (Rah i) h = same_below (λ k. entry_of (offset_of (Rah k))) (λ k. Some (Rah k)) 16 refl i h
entry_of-offset_of (Vfta i) h = same_below (λ k. entry_of (offset_of (Vfta k))) (λ k. Some (Vfta k)) 128 refl i h
entry_of-offset_of Ctrl h = refl
entry_of-offset_of _ h = refl

-- each row ends within the registers' space
abbrev pub ends_within : Reg → Bool
ends_within reg = nat_le ((row_of reg).offset + (row_of reg).spacing * (row_of reg).words) 0x06000

each_within : (reg : Reg) → ends_within reg ≡ true
each_within Ctrl = refl
each_within _ = refl

below_end : (off s n i : ℕ) → (s ≡ 4) ⊎ (s ≡ 8) → off + s * n ≤ 0x06000 → i < n → off + s * i < 0x06000
below_end off s n i (inl e) le lt =
    let P : ℕ → Type 0 = λ t. off + t * n ≤ 0x06000 → off + t * i < 0x06000 in
    subst P (sym e) (λ h. omega arith) le
below_end off s n i (inr e) le lt =
    let P : ℕ → Type 0 = λ t. off + t * n ≤ 0x06000 → off + t * i < 0x06000 in
    subst P (sym e) (λ h. omega arith) le

pub below_space : (reg : Reg) → IsReg reg → offset_of reg < 0x06000
below_space reg h =
    let row = row_of reg in
    below_end row.offset row.spacing row.words (index_of reg) (spaced reg) (leb-true _ _ (each_within reg)) h

-- ---- of_offset
none_in : (o : ℕ) (found : Option Reg) → IfSome found (λ reg. IsReg reg × (offset_of reg ≡ o))
    → ((reg : Reg) → IsReg reg → offset_of reg ≡ o → ⊥) → None ≡ found
none_in o None l n = refl
none_in o (Some reg) l n = absurd (n reg l.0 l.1)

pub none_found : (o : ℕ) → ((reg : Reg) → IsReg reg → offset_of reg ≡ o → ⊥) → None ≡ reg_at o
unfolding reg_at
none_found o n = none_in o (reg_at o) (reg_in_lies registers o) n

pub found_there : (o : ℕ) (found : Reg) → IsReg found × (offset_of found ≡ o) → Some found ≡ reg_at o
found_there o found h = sym (reg_at-offset_of found h.0) ∙ ap reg_at h.1

given_at : (o : ℕ) (found : Option Reg) → found ≡ entry_of o → IfSome found (λ reg. IsReg reg × (offset_of reg ≡ o))
    → found ≡ reg_at o
given_at o None is there = none_found o (λ reg has lies.
    let same : None ≡ Some reg = is ∙ ap entry_of (sym lies) ∙ entry_of-offset_of reg has in
    cc)
given_at o (Some reg) is there = found_there o reg there

-- what the page gives is the register that lies there
pub page_gives : (o page : ℕ) → page ≡ page_at o → o < 0x06000 → o % 4 ≡ 0
    → entry_in page ((o / 4) % 16) ≡ reg_at o
page_gives o page is within whole = ap (λ k. entry_in k ((o / 4) % 16)) is
    ∙ given_at o (entry_of o) refl (entry_lies o within whole)

-- what is found in the table lies there, and where nothing is found nothing does
pub found_lies : (found : Option Reg) (o : ℕ) → found ≡ reg_at o → IfSome found (λ reg. IsReg reg × (offset_of reg ≡ o))
unfolding reg_at
found_lies found o is = subst (λ f. IfSome f (λ reg. IsReg reg × (offset_of reg ≡ o))) (sym is) (reg_in_lies registers o)

pub none_lies : (found : Option Reg) (o : ℕ) → found ≡ reg_at o
    → IfNone found ((reg : Reg) → IsReg reg → offset_of reg ≡ o → ⊥)
none_lies None o is = λ reg has lies.
    let same : None ≡ Some reg = is ∙ ap reg_at (sym lies) ∙ reg_at-offset_of reg has in cc
none_lies (Some reg) o is = tt

-- ---- next_page_with_registers
-- a word that holds an offset where a register lies begins there
abbrev pub lies_whole : Row → Bool
lies_whole row = (row.offset % 4) == 0

each_lies_whole : (reg : Reg) → lies_whole (row_of reg) ≡ true
each_lies_whole Ctrl = refl
each_lies_whole _ = refl

whole_at : (off s i : ℕ) → (s ≡ 4) ⊎ (s ≡ 8) → off % 4 ≡ 0 → (off + s * i) % 4 ≡ 0
whole_at off s i (inl e) w = subst (λ t. (off + t * i) % 4 ≡ 0) (sym e) (omega arith)
whole_at off s i (inr e) w = subst (λ t. (off + t * i) % 4 ≡ 0) (sym e) (omega arith)

-- each register lies at a multiple of 4
pub whole_word : (reg : Reg) → offset_of reg % 4 ≡ 0
whole_word reg =
    let row = row_of reg in
    whole_at row.offset row.spacing (index_of reg) (spaced reg) (eqb-true _ _ (each_lies_whole reg))

-- no register lies on the page with no register
on_page : (reg : Reg) → IsReg reg → (page_at (offset_of reg) == 0) ≡ false
on_page (Mta i) h = same_below (λ k. page_at (offset_of (Mta k)) == 0) (λ k. false) 128 refl i h
on_page (Ral i) h = same_below (λ k. page_at (offset_of (Ral k)) == 0) (λ k. false) 16 refl i h
on_page (Rah i) h = same_below (λ k. page_at (offset_of (Rah k)) == 0) (λ k. false) 16 refl i h
on_page (Vfta i) h = same_below (λ k. page_at (offset_of (Vfta k)) == 0) (λ k. false) 128 refl i h
on_page Ctrl h = refl
on_page _ h = refl

pub none_on_page : (page : ℕ) → slice_index_or PAGE_AT page 0 ≡ 0 → NoneFrom (64 * page) (64 * page + 64)
none_on_page page bare o from below = sym (none_found o (λ reg has lies.
    let same : offset_of reg / 64 ≡ page = omega arith in
    let at : page_at (offset_of reg) ≡ 0 = ap (λ k. slice_index_or PAGE_AT k 0) same ∙ bare in
    let test : (page_at (offset_of reg) == 0) ≡ true = ap (λ k. k == 0) at in
    let apart = on_page reg has in
    let wrong : false ≡ true = sym apart ∙ test in
    cc))

none_given : (found : Option Reg) → is_some found ≡ false → found ≡ None
none_given None none = refl
none_given (Some reg) none = absurd (let f : true ≡ false = none in cc)

-- a stretch with no register that ends behind their space has no end
pub none_behind : {a end : ℕ} → NoneFrom a end → 0x06000 ≤ end → (o : ℕ) → a ≤ o → reg_at o ≡ None
none_behind {end = end} before ends o from = elim (truth (nat_lt o end)) [
  | inl t ↦ before o from (grind (arith, nat_tests, t))
  | inr t ↦
      let past : end ≤ o = grind (arith, nat_tests, t) in
      sym (none_found o (λ reg has lies. omega (arith, below_space reg has)))
]
