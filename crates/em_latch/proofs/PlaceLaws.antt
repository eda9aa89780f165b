-- Where the latches keep their words.
use Rattle.std.proofs.Common.{◌≡◌, ℕ, ◌+◌, ◌<◌, Bool, true, ◌&&◌, ◌||◌, ◌==◌, List, nat_lt, length}
use Rattle.std.proofs.Common.{refl, sym, subst, ap, ◌∙◌, arith, eqb-true, get_or, set, Some}
use Rattle.std.specs.Prelude.{not, unwrap_or}
use Rattle.std.proofs.lemmas.Bool.{and_parts}
use Rattle.std.proofs.lemmas.Bool.Decides.{nat_tests}
use Rattle.std.specs.FinMap as map
use Rattle.em_regs.specs.declared.reg.Reg.{Reg}
use Rattle.em_regs.specs.declared.reg.Reg.TheVariants.{Ctrl, Icr, Ims}
use Rattle.em_regs.specs.Table.{row_of, offset_of}
use Rattle.em_regs.specs.Storage.{Registers, words_at}
use Rattle.em_regs.specs.RegFile.{at}
use Rattle.em_regs.proofs.Words.{distinct, zeros, IsPlace, word_is, word_set}
use Rattle.em_regs.proofs.PlaceLaws.{chosen}
use Rattle.em_latch.specs.declared.undo.TheConstants.{WORDS}
use Rattle.em_latch.specs.Storage.{offsets}
use Rattle.em_latch.specs.Latches.{is_word, IsWord, fresh}

pub distinct-offsets : distinct offsets ≡ true
unfolding offsets
distinct-offsets = refl

pub length-offsets : length offsets ≡ WORDS
unfolding offsets
length-offsets = refl

pub fresh_is : fresh ≡ words_at offsets (zeros WORDS)
unfolding fresh
fresh_is = ap (λ n. words_at offsets (zeros n)) length-offsets

-- the place of a register's word
abbrev pub word_place : Reg → ℕ
word_place Icr = 0
word_place Ims = 1
word_place reg = 2 + (row_of reg).place

abbrev pub placed : Reg → Bool
placed reg = not (is_word reg) || (nat_lt (word_place reg) WORDS && get_or offsets (word_place reg) 0 == offset_of reg)

each_placed : (reg : Reg) → placed reg ≡ true
unfolding offsets
each_placed Ctrl = refl
each_placed _ = refl

both : (reg : Reg) → IsWord reg → (nat_lt (word_place reg) WORDS ≡ true) ×
    ((get_or offsets (word_place reg) 0 == offset_of reg) ≡ true)
both reg h =
    and_parts (nat_lt (word_place reg) WORDS) (get_or offsets (word_place reg) 0 == offset_of reg)
    (chosen (is_word reg) _ h (each_placed reg))

pub place_within : (reg : Reg) → IsWord reg → word_place reg < WORDS
place_within reg h = let t : nat_lt (word_place reg) WORDS ≡ true = (both reg h).0 in grind (arith, nat_tests, t)

pub place_is : (reg : Reg) → IsWord reg → get_or offsets (word_place reg) 0 ≡ offset_of reg
place_is reg h = eqb-true _ _ (both reg h).1

-- the place of a counter is behind those of ICR and IMS
pub counter_place : (reg : Reg) → (reg ≡ Icr → ⊥) → (reg ≡ Ims → ⊥) → word_place reg ≡ 2 + (row_of reg).place
counter_place Icr n i = absurd (n refl)
counter_place Ims n i = absurd (i refl)
counter_place Ctrl n i = refl
counter_place _ n i = refl

-- a place of the latches
pub is_place : (ws : List ℕ) (m : Registers) (i : ℕ) → i < WORDS → length ws ≡ WORDS → words_at offsets ws ≡ m
    → IsPlace offsets ws m i (get_or offsets i 0)
is_place ws m i h size is = record {
  differ = distinct-offsets;
  offset = omega (arith, h, length-offsets);
  word = omega (arith, h, size);
  place = refl;
  words = is;
}

-- what the map holds at the offset of a place
pub at_place : (ws : List ℕ) (m : Registers) (i : ℕ) → i < WORDS → length ws ≡ WORDS → words_at offsets ws ≡ m
    → at m (get_or offsets i 0) ≡ get_or ws i 0
at_place ws m i h size is = ap (λ x. unwrap_or x 0) (word_is (is_place ws m i h size is))

-- and that it holds something there
pub has_place : (ws : List ℕ) (m : Registers) (reg : Reg) → IsWord reg → length ws ≡ WORDS → words_at offsets ws ≡ m
    → map.get m (offset_of reg) ≡ Some (at m (offset_of reg))
has_place ws m reg is_reg size is =
    let i : ℕ = word_place reg in
    let within : i < WORDS = place_within reg is_reg in
    let place : get_or offsets i 0 ≡ offset_of reg = place_is reg is_reg in
    subst (λ (o : ℕ). map.get m o ≡ Some (at m o)) place
    (word_is (is_place ws m i within size is) ∙ ap Some (sym (at_place ws m i within size is)))

-- ---- a word that is stored, of which the old one is given
-- place i held w, and v is written there
pub record Swaps (old : Registers) (words : List ℕ) (i v w : ℕ) : Type 0 where
  pub was : map.get old (get_or offsets i 0) ≡ Some w
  pub now : words_at offsets words ≡ map.insert old (get_or offsets i 0) v

pub swaps : {old : Registers} {words : List ℕ} {i v w : ℕ} (ws : List ℕ) → i < WORDS → length ws ≡ WORDS
    → words_at offsets ws ≡ old
    → get_or ws i 0 ≡ w → words ≡ set ws i v → Swaps old words i v w
swaps {old} {words} {i} {v} {w} ws h size is was now =
    let place = is_place ws old i h size is in
    record {
      was = word_is place ∙ ap (λ x. Some x) was;
      now = ap (words_at offsets) now ∙ word_set v place;
    }
