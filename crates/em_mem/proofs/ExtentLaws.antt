-- Memory is the same up to the next octet of a record.
use Rattle.std.proofs.Common.{◌≡◌, ℕ, ◌+◌, ◌<◌, ◌≤◌, ◌⊎◌, inl, inr, Bool, true, false, cond, List, length, get_or}
use Rattle.std.proofs.Common.{Some, None, refl, sym, ap, ◌∙◌, subst, arith}
use Rattle.std.specs.Prelude.{Option, IfSome, max, nat_lt, slice_get}
use Rattle.std.proofs.lemmas.Bool.{cases_lt}
use Rattle.std.proofs.lemmas.Bool.Decides.{nat_tests}
use Rattle.std.proofs.lemmas.Option.{slice_get-get_or, slice_get_past}
use Rattle.em_mem.specs.Memory.{Cells, Fits, EndsIn, Patch, put, undo}
use Rattle.em_mem.specs.Extent.{SameUpTo, least, next_octet}
use Rattle.em_mem.proofs.PutLaws.{length-put}
use Rattle.em_mem.proofs.WindowLaws.{before_put, past_put}

-- the place lies before the range of n from a on, or behind it
abbrev IsBeside : ℕ → ℕ → ℕ → Type 0
IsBeside i a n = (i < a) ⊎ (a + n ≤ i)

beside_if : (a i at n : ℕ) (b : Bool) → nat_lt (max at a) (at + n) ≡ b → a ≤ i
    → IfSome (cond b (Some (max at a)) None) (λ k. i < k) → IsBeside i at n
beside_if a i at n true is from below = inl (omega (arith, from, below))
beside_if a i at n false is from below =
    let past : at + n ≤ max at a = grind (arith, nat_tests) in
    elim (cases_lt i at) [ inl l ↦ inl l | inr l ↦ inr (omega (arith, past, from, l)) ]

get_or_beside : (m : List ℕ) (a : ℕ) (d : List ℕ) (i : ℕ) → EndsIn m a (length d) → i < length m
    → IsBeside i a (length d) → get_or m i 0 ≡ get_or (put m a d) i 0
get_or_beside m a d i held l (inl before) = sym (before_put m a d i before l)
get_or_beside m a d i held l (inr past) = sym (past_put m a d i (omega (arith, held)) past)

octet_beside : (m : List ℕ) (a : ℕ) (d : List ℕ) (i : ℕ) → EndsIn m a (length d) → IsBeside i a (length d)
    → slice_get m i ≡ slice_get (put m a d) i
octet_beside m a d i held beside =
    let size = length-put m a d held in
    elim (cases_lt i (length m)) [
      | inl l ↦ slice_get-get_or m i 0 l ∙ ap Some (get_or_beside m a d i held l beside)
          ∙ sym (slice_get-get_or (put m a d) i 0 (omega (arith, size, l)))
      | inr past ↦ slice_get_past m i past ∙ sym (slice_get_past (put m a d) i (omega (arith, size, past)))
    ]

from_if : (a at : ℕ) (b : Bool) → IfSome (cond b (Some (max at a)) None) (λ k. a ≤ k)
from_if a at true = omega arith
from_if a at false = tt

pub same_up_to : (a : ℕ) (p : Patch) (next : Option ℕ) → next ≡ next_octet a p → (m : Cells) → Fits m p
    → SameUpTo m.octets (undo m p).octets a next
same_up_to a p next is m fits =
    let before : Bool = nat_lt (max p.at a) (p.at + length p.octets) in
    record {
      from = subst (λ x. IfSome x (λ k. a ≤ k)) (sym is) (from_if a p.at before);
      same = λ i from below. octet_beside m.octets p.at p.octets i fits.held.to
          (beside_if a i p.at (length p.octets) before refl from (subst (λ x. IfSome x (λ k. i < k)) is below));
    }

-- nothing is put back
pub all_same : (m : List ℕ) (a : ℕ) → SameUpTo m m a None
all_same m a = record { from = tt; same = λ i from below. refl }

-- two records are put back, one after the other
pub same_in_turn : (m n o : List ℕ) (a : ℕ) (k l : Option ℕ) → SameUpTo m n a k → SameUpTo n o a l
    → SameUpTo m o a (least k l)
same_in_turn m n o a None l first second = record {
  from = second.from;
  same = λ i from below. first.same i from tt ∙ second.same i from below;
}
same_in_turn m n o a (Some k) None first second = record {
  from = first.from;
  same = λ i from below. first.same i from below ∙ second.same i from tt;
}
same_in_turn m n o a (Some k) (Some l) first second = record {
  from = omega (arith, first.from, second.from);
  same = λ i from below.
      first.same i from (omega (arith, below)) ∙ second.same i from (omega (arith, below));
}
