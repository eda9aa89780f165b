-- The bits that a word names, one after another.
use Rattle.std.proofs.Common.{◌≡◌, ◌≤◌, ℕ, Bool, true, false, cond, List, [], ◌∷◌, length, map, refl, arith}
use Rattle.std.proofs.Common.{Option, Some, None, Ok, Err, MatchOption, Bor, bit_or, find}
use Rattle.std.specs.Option.{option_map}
use Rattle.std.specs.List.{slice_split, position_or_len}
use Rattle.std.proofs.lemmas.List.Splits.{slice_split_none}
use Rattle.std.proofs.lemmas.List.Sums.{fails_before_first}
use Rattle.em_regs.specs.declared.reg.Reg.{Reg}
use Rattle.em_names.specs.declared.field.Field.{Field}
use Rattle.em_names.specs.Bits.{table_of, row_of_field}
use Rattle.em_prompt.specs.Bits.{is_bar, is_called, bit_among, bits_with}

-- a text without a bar is one part
pub no_bar : (text : List ℕ) → length text ≤ position_or_len is_bar text → slice_split is_bar text ≡ text ∷ []
no_bar text h = slice_split_none is_bar text (λ k d lt. fails_before_first is_bar text k d (omega arith))

-- the first field that is a bit of this name has the mask of the first row that is
pub bit_of_fields : (fields : List Field) (word : List ℕ)
    → option_map (λ (field : Field). field.mask) (find (is_called word) fields) ≡ bit_among (map row_of_field fields) word
bit_of_fields [] word = refl
bit_of_fields (field ∷ fields) word = by_first (is_called word field) (bit_of_fields fields word) where
  by_first : (b : Bool)
      → option_map (λ (f : Field). f.mask) (find (is_called word) fields) ≡ bit_among (map row_of_field fields) word
      → option_map (λ (f : Field). f.mask) (cond b (Some field) (find (is_called word) fields))
      ≡ cond b (Some field.mask) (bit_among (map row_of_field fields) word)
  by_first true more = refl
  by_first false more = more

-- where the first name is none of a bit, it is the answer
pub first_is_none : (behind : Option (Bor (List ℕ))) (reg : Reg) (value : ℕ) (text name : List ℕ)
    → MatchOption behind (slice_split is_bar text ≡ name ∷ []) (λ b. slice_split is_bar text ≡ name ∷ slice_split is_bar b.now)
    → bit_among (table_of reg) name ≡ None → bits_with reg value (slice_split is_bar text) ≡ Err name
first_is_none None reg value text name is none = rw (is, none) refl
first_is_none (Some b) reg value text name is none = rw (is, none) refl

-- a bit before others, and the last one
pub one_more : (reg : Reg) (value bit : ℕ) (text name behind : List ℕ)
    → slice_split is_bar text ≡ name ∷ slice_split is_bar behind → bit_among (table_of reg) name ≡ Some bit
    → bits_with reg value (slice_split is_bar text) ≡ bits_with reg (bit_or value bit) (slice_split is_bar behind)
one_more reg value bit text name behind is some = rw (is, some) refl

pub last_one : (reg : Reg) (value bit : ℕ) (text name : List ℕ) → slice_split is_bar text ≡ name ∷ []
    → bit_among (table_of reg) name ≡ Some bit
    → bits_with reg value (slice_split is_bar text) ≡ Ok (bit_or value bit)
last_one reg value bit text name is some = rw (is, some) refl
