-- Parts end to end, of which one is read or changed.
use Rattle.std.proofs.Common.{
  ◌≡◌,
  ℕ,
  ◌+◌,
  ◌*◌,
  ◌-◌,
  ◌≤◌,
  ◌<◌,
  zero,
  suc,
  Bool,
  true,
  false,
  List,
  [],
  ◌∷◌,
  ◌++◌,
  length,
  set,
  get_or,
  replicate,
  refl,
  sym,
  ap,
  ◌∙◌,
  arith,
  length-append,
}
use Rattle.std.proofs.Math.Nat.{mul-suc}
use Rattle.std.proofs.lemmas.List.{get_or_append_left, get_or-append_right, replicate-append-replicate}
use Rattle.std.specs.List.{flat_map}
use Rattle.em_mem.specs.Pages.{AllAre, part_of, put_in}
use Rattle.em_mem.proofs.ItemLaws.{part_left, part_right, put_left, put_right}

module _ {A : Type 0} (P : A → Type 0) where
  pub all_at : (xs : List A) (i : ℕ) (x : A) → AllAre P xs → i < length xs → P (get_or xs i x)
  all_at [] i x all l = absurd (omega arith)
  all_at (y ∷ xs) zero x all l = all.0
  all_at (y ∷ xs) (suc i) x all l = all_at xs i x all.1 (omega arith)

  pub all_set : (xs : List A) (i : ℕ) (q : A) → AllAre P xs → P q → AllAre P (set xs i q)
  all_set [] i q all is = tt
  all_set (y ∷ xs) zero q all is = (is, all.1)
  all_set (y ∷ xs) (suc i) q all is = (all.0, all_set xs i q all.1 is)

  pub all_same : (n : ℕ) (x : A) → P x → AllAre P (replicate n x)
  all_same zero x is = tt
  all_same (suc n) x is = (is, all_same n x is)

-- parts of size S each
module _ {A B : Type 0} (f : A → List B) (P : A → Type 0) (S : ℕ) (has : (x : A) → P x → length (f x) ≡ S) where
  pub length_level : (xs : List A) → AllAre P xs → length (flat_map f xs) ≡ S * length xs
  length_level [] all = omega arith
  length_level (x ∷ xs) all = omega
      (arith, length-append (f x) (flat_map f xs), has x all.0, length_level xs all.1, mul-suc S (length xs))

  -- a read within one part
  pub part_level : (xs : List A) (i k o n : ℕ) (x : A) → AllAre P xs → i < length xs → k ≡ S * i + o → o + n ≤ S
      → part_of (flat_map f xs) k n ≡ part_of (f (get_or xs i x)) o n
  part_level [] i k o n x all l at one = absurd (omega arith)
  part_level (y ∷ xs) zero k o n x all l at one =
      let here : k ≡ o = omega arith in
      ap (λ j. part_of (f y ++ flat_map f xs) j n) here
      ∙ part_left (f y) (flat_map f xs) o n (omega (arith, has y all.0))
  part_level (y ∷ xs) (suc i) k o n x all l at one =
      part_right (f y) (flat_map f xs) k (S * i + o) n (omega (arith, has y all.0, mul-suc S i))
      ∙ part_level xs i (S * i + o) o n x all.1 (omega arith) refl one

  pub get_level : (xs : List A) (i k o : ℕ) (x : A) (z : B) → AllAre P xs → i < length xs → k ≡ S * i + o → o < S
      → get_or (flat_map f xs) k z ≡ get_or (f (get_or xs i x)) o z
  get_level [] i k o x z all l at one = absurd (omega arith)
  get_level (y ∷ xs) zero k o x z all l at one =
      let here : k ≡ o = omega arith in
      ap (λ j. get_or (f y ++ flat_map f xs) j z) here
      ∙ get_or_append_left (f y) (flat_map f xs) z o (omega (arith, has y all.0))
  get_level (y ∷ xs) (suc i) k o x z all l at one =
      let rest : k - S ≡ S * i + o = omega (arith, mul-suc S i) in
      get_or-append_right (f y) (flat_map f xs) S k z (has y all.0) (omega (arith, mul-suc S i))
      ∙ ap (λ j. get_or (flat_map f xs) j z) rest ∙ get_level xs i (S * i + o) o x z all.1 (omega arith) refl one

  -- a write within one part
  pub put_level : (xs : List A) (i k o : ℕ) (d : List B) (q x : A) → AllAre P xs → i < length xs → k ≡ S * i + o
      → o + length d ≤ S → f q ≡ put_in (f (get_or xs i x)) o d → flat_map f (set xs i q) ≡ put_in (flat_map f xs) k d
  put_level [] i k o d q x all l at one is = absurd (omega arith)
  put_level (y ∷ xs) zero k o d q x all l at one is =
      let here : o ≡ k = omega arith in
      ap (λ t. t ++ flat_map f xs) is
      ∙ sym (put_left (f y) (flat_map f xs) o d (omega (arith, has y all.0)))
      ∙ ap (λ j. put_in (f y ++ flat_map f xs) j d) here
  put_level (y ∷ xs) (suc i) k o d q x all l at one is =
      ap (λ t. f y ++ t) (put_level xs i (S * i + o) o d q x all.1 (omega arith) refl one is)
      ∙ sym (put_right (f y) (flat_map f xs) k (S * i + o) d (omega (arith, has y all.0, mul-suc S i)))

module _ {A B : Type 0} (f : A → List B) where
  -- a part in the place of one that is seen so
  pub same_level : (xs : List A) (i : ℕ) (q x : A) → f q ≡ f (get_or xs i x)
      → flat_map f (set xs i q) ≡ flat_map f xs
  same_level [] i q x is = refl
  same_level (y ∷ xs) zero q x is = ap (λ t. t ++ flat_map f xs) is
  same_level (y ∷ xs) (suc i) q x is = ap (λ t. f y ++ t) (same_level xs i q x is)

  -- the same part so many times
  pub flat_level : (n S : ℕ) (x : A) (z : B) → f x ≡ replicate S z
      → flat_map f (replicate n x) ≡ replicate (S * n) z
  flat_level zero S x z is =
      let none : 0 ≡ S * 0 = omega arith in
      ap (λ k. replicate k z) none
  flat_level (suc n) S x z is =
      let size : S + S * n ≡ S * suc n = omega (arith, mul-suc S n) in
      (λ i. is i ++ flat_level n S x z is i) ∙ replicate-append-replicate S (S * n) z ∙ ap (λ k. replicate k z) size
