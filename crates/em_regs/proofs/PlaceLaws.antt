-- Which word of a register file keeps each register.
use Rattle.std.proofs.Common.{◌≡◌, ℕ, zero, suc, ◌+◌, ◌*◌, ◌<◌, Bool, true, false, ◌&&◌, ◌||◌, ◌==◌, inl, inr, IsTrue}
use Rattle.std.proofs.Common.{refl, sym, ap, ◌∙◌, arith, eqb-true, get_or, length, nat_lt}
use Rattle.std.specs.Prelude.{not}
use Rattle.std.proofs.lemmas.Bool.{and_parts, cases_eq}
use Rattle.std.proofs.lemmas.Bool.Decides.{nat_tests}
use Rattle.em_regs.specs.declared.reg.Reg.{Reg}
use Rattle.em_regs.specs.declared.reg.Reg.TheVariants.{Ctrl}
use Rattle.em_regs.specs.declared.table.Row.{Row}
use Rattle.em_regs.specs.declared.table.TheConstants.{STORED_WORDS}
use Rattle.em_regs.specs.Table.{row_of, index_of, offset_of, place_of, is_stored}
use Rattle.em_regs.specs.Storage.{offsets, words_at}
use Rattle.em_regs.specs.RegFile.{IsStored, zeroed}
use Rattle.em_regs.proofs.Words.{distinct, zeros}

-- ---- the offsets of a register file
pub distinct-offsets : distinct offsets ≡ true
unfolding offsets
distinct-offsets = refl

pub length-offsets : length offsets ≡ STORED_WORDS
unfolding offsets
length-offsets = refl

pub zeroed_is : zeroed ≡ words_at offsets (zeros STORED_WORDS)
unfolding zeroed
zeroed_is = ap (λ n. words_at offsets (zeros n)) length-offsets

-- two functions agree below a number
abbrev pub all_same : (ℕ → ℕ) → (ℕ → ℕ) → ℕ → Bool
all_same f g zero = true
all_same f g (suc n) = f n == g n && all_same f g n

pub all_same-at : (f g : ℕ → ℕ) (n : ℕ) → all_same f g n ≡ true → (i : ℕ) → i < n → f i ≡ g i
all_same-at f g zero h i lt = absurd (omega arith)
all_same-at f g (suc n) h i lt =
    let parts = and_parts (f n == g n) (all_same f g n) h in
    elim (cases_eq i n) [
      | inl is ↦ ap f is ∙ eqb-true (f n) (g n) parts.0 ∙ sym (ap g is)
      | inr apart ↦ all_same-at f g n parts.1 i (omega arith)
    ]

-- a row's words are kept where the row says
abbrev pub same_places : Row → Bool
same_places row = all_same (λ i. get_or offsets (row.place + i) 0) (λ i. row.offset + row.spacing * i) row.words

abbrev pub ends_within : Row → Bool
ends_within row = nat_lt (row.place + row.words) (suc (length offsets))

abbrev pub placed : Reg → Bool
placed reg = not (is_stored reg) || (same_places (row_of reg) && ends_within (row_of reg))

each_placed : (reg : Reg) → placed reg ≡ true
unfolding offsets
each_placed Ctrl = refl
each_placed _ = refl

pub chosen : (b c : Bool) → IsTrue b → (not b || c) ≡ true → c ≡ true
chosen true c t h = h
chosen false c t h = absurd (let f : false ≡ true = t in cc)

both : (reg : Reg) → IsStored reg → (same_places (row_of reg) ≡ true) × (ends_within (row_of reg) ≡ true)
both reg h =
    and_parts (same_places (row_of reg)) (ends_within (row_of reg)) (chosen (is_stored reg) _ h.1 (each_placed reg))

pub place_is : (reg : Reg) → IsStored reg → get_or offsets (place_of reg) 0 ≡ offset_of reg
place_is reg h =
    let row = row_of reg in
    all_same-at (λ i. get_or offsets (row.place + i) 0) (λ i. row.offset + row.spacing * i) row.words
    (both reg h).0 (index_of reg) h.0

pub place_within : (reg : Reg) → IsStored reg → place_of reg < length offsets
place_within reg h =
    let row = row_of reg in
    let t : nat_lt (row.place + row.words) (suc (length offsets)) ≡ true
    = (both reg h).1 in
    let ends : row.place + row.words < suc (length offsets) = grind (arith, nat_tests, t) in
    omega (arith, h.0, ends)
