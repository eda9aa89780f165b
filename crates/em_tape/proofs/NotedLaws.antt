-- What is noted of a line, among what is noted of others.
use Rattle.std.proofs.Common.{◌≡◌, ℕ, ◌+◌, ◌*◌, ◌<◌, ◌≤◌, ◌^◌, zero, suc, Bool, true, false, List, [], ◌∷◌, ◌++◌, length, take, Some, None, Option}
use Rattle.std.proofs.Common.{refl, sym, ap, ◌∙◌, subst, arith, inl, inr}
use Rattle.std.specs.Prelude.{slice_get, if◌then◌else◌}
use Rattle.std.proofs.lemmas.Bool.{cases_lt, false≢true, eqb-true}
use Rattle.std.proofs.lemmas.List.{take-append-le, take_all, length-append, length-take-le}
use Rattle.std.proofs.lemmas.Option.{slice_get_within}
use Rattle.em_named.specs.Numbers.{end_of, performed_by}
use Rattle.em_named.specs.declared.did.Did.{Did}
use Rattle.em_named.specs.declared.did.Did.TheVariants.{Performed, TookBack}
use Rattle.em_named.proofs.NumberLaws.{end-next, end-take}
use Rattle.em_tape.specs.Moves.{has_at, noted, same_did}
use Rattle.em_tape.proofs.TapeLaws.{take-more}

same_is : (one d : Did) → same_did one d ≡ true → one ≡ d
same_is (Performed k) (Performed n) is = ap Performed (eqb-true k n is)
same_is (TookBack k) (TookBack n) is = ap TookBack (eqb-true k n is)
same_is (Performed k) (TookBack n) is = absurd (false≢true is)
same_is (TookBack k) (Performed n) is = absurd (false≢true is)

pub has_is : (found : Option Did) (d : Did) → has_at found d ≡ true → found ≡ Some d
has_is None d is = absurd (false≢true is)
has_is (Some one) d is = ap Some (same_is one d is)

record Noting (k : ℕ) (d : Did) (did now : List Did) : Type 0 where
  at : slice_get now k ≡ Some d
  front : take k now ≡ take k did
  long : k + 1 ≤ length now
  most : (count : ℕ) → k < count → length did ≤ count → length now ≤ count
  counts : performed_by d ≤ 0x2_0000_0000 → ((n : ℕ) → end_of n did ≤ n * 0x2_0000_0000)
      → (n : ℕ) → end_of n now ≤ n * 0x2_0000_0000

get-last : (xs : List Did) (d : Did) → slice_get (xs ++ d ∷ []) (length xs) ≡ Some d
get-last [] d = refl
get-last (x ∷ xs) d = get-last xs d

end-front : (n : ℕ) (xs ys : List Did) → n ≤ length xs → end_of n (xs ++ ys) ≡ end_of n xs
end-front zero xs ys le = refl
end-front (suc n) [] ys le = absurd (omega arith)
end-front (suc n) (x ∷ xs) ys le = ap (λ m. performed_by x + m) (end-front n xs ys (omega arith))

end-none : (n : ℕ) → end_of n [] ≡ 0
end-none zero = refl
end-none (suc n) = refl

end-last : (n : ℕ) (xs : List Did) (d : Did) → length xs < n
    → end_of n (xs ++ d ∷ []) ≡ end_of (length xs) xs + performed_by d
end-last zero xs d lt = absurd (omega arith)
end-last (suc n) [] d lt = omega (arith, end-none n)
end-last (suc n) (x ∷ xs) d lt =
    let more = end-last n xs d (omega arith) in
    omega (arith, more)

end-part : (n whole : ℕ) (did : List Did) → end_of n (take whole did) ≤ end_of n did
end-part zero whole did = omega arith
end-part (suc n) zero did = omega arith
end-part (suc n) (suc whole) [] = omega arith
end-part (suc n) (suc whole) (d ∷ did) =
    let more = end-part n whole did in
    omega (arith, more)

pub counts_take : (whole : ℕ) (did : List Did) → ((n : ℕ) → end_of n did ≤ n * 0x2_0000_0000) → (n : ℕ)
    → end_of n (take whole did) ≤ n * 0x2_0000_0000
counts_take whole did few n =
    let le = end-part n whole did in
    let here = few n in
    omega (arith, le, here)

counts-last : (k : ℕ) (d : Did) (did : List Did) → k ≤ length did → performed_by d ≤ 0x2_0000_0000
    → ((n : ℕ) → end_of n did ≤ n * 0x2_0000_0000) → (n : ℕ)
    → end_of n (take k did ++ d ∷ []) ≤ n * 0x2_0000_0000
counts-last k d did within most few n =
    let front = length-take-le k did within in
    elim (cases_lt (length (take k did)) n) [
      | inl past ↦
          let is = end-last n (take k did) d past in
          let upto = counts_take k did few (length (take k did)) in
          omega (arith, is, upto)
      | inr before ↦
          let is = end-front n (take k did) (d ∷ []) before in
          let upto = counts_take k did few n in
          omega (arith, is, upto)
    ]

noting : (k : ℕ) (d : Did) (did : List Did) (b : Bool) → has_at (slice_get did k) d ≡ b → k ≤ length did
    → Noting k d did (if b then did else take k did ++ d ∷ [])
noting k d did true is within =
    let at = has_is (slice_get did k) d is in
    let lt = slice_get_within did k d at in
    record {
      at = at;
      front = refl;
      long = omega arith;
      most = λ count some le. le;
      counts = λ most few n. few n;
    }
noting k d did false is within =
    let front = length-take-le k did within in
    let long = length-append (take k did) (d ∷ []) in
    record {
      at = subst (λ n. slice_get (take k did ++ d ∷ []) n ≡ Some d) front (get-last (take k did) d);
      front = take-append-le k (take k did) (d ∷ []) (omega (arith, front)) ∙ take_all k (take k did) (omega (arith, front));
      long = omega (arith, front, long);
      most = λ count some le. omega (arith, front, long);
      counts = λ most few n. counts-last k d did within most few n;
    }

notes : (k : ℕ) (d : Did) (did : List Did) → k ≤ length did → Noting k d did (noted k d did)
notes k d did within = noting k d did (has_at (slice_get did k) d) refl within

pub noted_within : (k : ℕ) (d : Did) (count : ℕ) (did : List Did) → k ≤ length did → k < count → length did ≤ count
    → (k + 1 ≤ length (noted k d did)) × (length (noted k d did) ≤ count)
noted_within k d count did within lt le =
    let it = notes k d did within in
    (it.long, it.most count lt le)

pub noted_at : (k : ℕ) (d : Did) (did : List Did) → k ≤ length did → slice_get (noted k d did) k ≡ Some d
noted_at k d did within = (notes k d did within).at

pub take_noted : (k : ℕ) (d : Did) (did : List Did) → k ≤ length did
    → take (k + 1) (noted k d did) ≡ take k did ++ d ∷ []
take_noted k d did within =
    let it = notes k d did within in
    take-more k (noted k d did) d it.at ∙ ap (λ l. l ++ d ∷ []) it.front

pub counts_noted : (k : ℕ) (d : Did) (did : List Did) → k ≤ length did → performed_by d ≤ 0x2_0000_0000
    → ((n : ℕ) → end_of n did ≤ n * 0x2_0000_0000) → (n : ℕ) → end_of n (noted k d did) ≤ n * 0x2_0000_0000
counts_noted k d did within most few = (notes k d did within).counts most few

pub end_whole : (k : ℕ) (did : List Did) → end_of k (take k did) ≡ end_of k did
end_whole k did = end-take k k did (omega arith)

pub end_noted : (k : ℕ) (d : Did) (did : List Did) → k ≤ length did
    → end_of (k + 1) (noted k d did) ≡ end_of k did + performed_by d
end_noted k d did within =
    let it = notes k d did within in
    let e : suc k ≡ k + 1 = omega arith in
    ap (λ n. end_of n (noted k d did)) (sym e) ∙ end-next k (noted k d did) d it.at
    ∙ ap (λ n. n + performed_by d) (sym (end_whole k (noted k d did)) ∙ ap (end_of k) it.front ∙ end_whole k did)

-- ---- room

end-upto : (k : ℕ) (did : List Did) → end_of k did ≤ end_of (length did) did
end-upto zero did = omega arith
end-upto (suc k) [] = omega arith
end-upto (suc k) (d ∷ did) =
    let more = end-upto k did in
    omega (arith, more)

-- so few lines perform no more events than 63 bits count
pub room_of : (did slice : List Did) → slice ≡ did → ((n : ℕ) → end_of n did ≤ n * 0x2_0000_0000)
    → length did ≤ 0x3FFF_FFFF → (k : ℕ) → end_of k slice < 2 ^ 63
room_of did slice same counts few k =
    let upto = end-upto k did in
    let all = counts (length did) in
    subst (λ ds. end_of k ds < 2 ^ 63) (sym same) (omega (arith, upto, all))
