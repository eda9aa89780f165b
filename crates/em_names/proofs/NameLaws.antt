-- No two registers have one name.
use Rattle.std.proofs.Common.{◌≡◌, ℕ, ◌+◌, ◌*◌, ◌-◌, ◌<◌, ◌%◌, ◌&&◌, ◌==◌, nat_lt, nat_le, if◌then◌else◌}
use Rattle.std.proofs.Common.{inl, inr, List, [], ◌∷◌, Option, Some, None, refl, sym, ap, ◌∙◌, map, arith, true}
use Rattle.std.proofs.lemmas.Bool.{cases_lt}
use Rattle.std.proofs.lemmas.Bool.Decides.{nat_tests}
use Rattle.std.specs.Char.{is_ascii_digit, to_ascii_lowercase}
use Rattle.std.specs.Fmt.{digits}
use Rattle.em_regs.specs.declared.reg.Reg.{Reg}
use Rattle.em_regs.specs.declared.reg.Reg.TheVariants.{Ctrl, Mta, Ral, Rah, Vfta}
use Rattle.em_regs.specs.declared.profile.Profile.{Profile}
use Rattle.em_regs.specs.Table.{IsReg, IsRegOf, stem_of, offset_of, registers, reg_of}
use Rattle.em_regs.proofs.TableLaws.{same_below, whole_word}
use Rattle.em_regs.proofs.ProfileLaws.{reg_of-offset_of}
use Rattle.em_names.specs.Names.{begins_with_digit, name_of, IsNamed}

abbrev pub lowered : List ℕ → List ℕ
lowered word = map to_ascii_lowercase word

-- ---- a name read again

-- what stands behind a front, if the word begins with it
abbrev pub behind : List ℕ → List ℕ → Option (List ℕ)
behind [] word = Some word
behind (x ∷ xs) [] = None
behind (x ∷ xs) (y ∷ ys) = if x == y then behind xs ys else None

-- the number that the digits of a text write, whatever stands between them
abbrev pub number_in : ℕ → List ℕ → ℕ
number_in n [] = n
number_in n (c ∷ cs) = if nat_le 48 c && nat_lt c 58 then number_in (10 * n + (c - 48)) cs else number_in n cs

-- the row's register of this index; of a row with one register, that one where there is no index
abbrev pub at_index : Reg → List ℕ → Option Reg → Option Reg
at_index (Mta _) text later = Some (Mta (number_in 0 text))
at_index (Ral _) text later = Some (Ral (number_in 0 text))
at_index (Rah _) text later = Some (Rah (number_in 0 text))
at_index (Vfta _) text later = Some (Vfta (number_in 0 text))
at_index reg [] later = Some reg
at_index reg (c ∷ cs) later = later

abbrev pub in_row : Reg → Option (List ℕ) → Option Reg → Option Reg
in_row reg None later = later
in_row reg (Some text) later = at_index reg text later

-- the register of a name in lower case
abbrev pub read_name : List Reg → List ℕ → Option Reg
read_name [] word = None
read_name (reg ∷ regs) word = in_row reg (behind (lowered (stem_of reg)) word) (read_name regs word)

pub read_name-name_of : (reg : Reg) → IsReg reg → read_name registers (lowered (name_of reg)) ≡ Some reg
unfolding digits
read_name-name_of (Mta i) h =
    same_below (λ k. read_name registers (lowered (name_of (Mta k)))) (λ k. Some (Mta k)) 128 refl i h
read_name-name_of (Ral i) h =
    same_below (λ k. read_name registers (lowered (name_of (Ral k)))) (λ k. Some (Ral k)) 16 refl i h
read_name-name_of (Rah i) h =
    same_below (λ k. read_name registers (lowered (name_of (Rah k)))) (λ k. Some (Rah k)) 16 refl i h
read_name-name_of (Vfta i) h =
    same_below (λ k. read_name registers (lowered (name_of (Vfta k)))) (λ k. Some (Vfta k)) 128 refl i h
read_name-name_of Ctrl h = refl
read_name-name_of _ h = refl

-- two registers with one name are one
pub names_apart : (a b : Reg) (word : List ℕ) → IsReg a → IsReg b → IsNamed word a → IsNamed word b → a ≡ b
names_apart a b word ha hb na nb =
    let ea : Some a ≡ read_name registers (lowered word) = sym (ap (read_name registers) na ∙ read_name-name_of a ha) in
    let eb : Some b ≡ read_name registers (lowered word) = sym (ap (read_name registers) nb ∙ read_name-name_of b hb) in
    let same : Some a ≡ Some b = ea ∙ sym eb in
    cc

-- the word names no register of a profile that lies below an offset
abbrev pub NoneNamedBelow : Profile → List ℕ → ℕ → Type 0
NoneNamedBelow p word end = (reg : Reg) → IsRegOf p reg → offset_of reg < end → IsNamed word reg → ⊥

-- nor one below the next word, where what lies at the offset is not named either
pub none_named_next : (p : Profile) (word : List ℕ) (o : ℕ) → NoneNamedBelow p word o
    → ((reg : Reg) → reg_of p o ≡ Some reg → IsNamed word reg → ⊥) → o % 4 ≡ 0 → NoneNamedBelow p word (o + 4)
none_named_next p word o none here whole reg h lt n = elim (cases_lt (offset_of reg) o) [
  | inl before ↦ none reg h before n
  | inr from ↦
      let at : offset_of reg ≡ o = omega (arith, whole_word reg) in
      here reg (ap (reg_of p) (sym at) ∙ reg_of-offset_of p reg h.0 h.1) n
]

-- ---- no name begins with a digit

abbrev first_of : List ℕ → ℕ
first_of [] = 0
first_of (c ∷ cs) = c

-- in lower case each begins with a letter, from 61h on
first_letter : (reg : Reg) → nat_le 97 (first_of (lowered (name_of reg))) ≡ true
first_letter Ctrl = refl
first_letter _ = refl

-- a digit is no letter
digit_first : (c : ℕ) → is_ascii_digit c ≡ true → nat_le 97 (to_ascii_lowercase c) ≡ true → ⊥
digit_first c digit letter = grind (arith, nat_tests)

pub no_digit_first : (reg : Reg) (word : List ℕ) → begins_with_digit word ≡ true → IsNamed word reg → ⊥
no_digit_first reg [] digit named = cc
no_digit_first reg (c ∷ word) digit named =
    digit_first c digit (ap (λ text. nat_le 97 (first_of text)) named ∙ first_letter reg)
