-- Places in a ring, as one of the two ends moves on.
use Rattle.std.proofs.Common.{◌≡◌, ◌≢◌, ℕ, ◌<◌, zero, suc, true, false, [], ◌∷◌, ◌++◌}
use Rattle.std.proofs.Common.{refl, ap, ◌∙◌, sym, arith}
use Rattle.std.proofs.lemmas.Bool.{lt-ltb}
use Rattle.std.proofs.lemmas.Bool.Decides.{nat_tests}
use Rattle.em_driver.specs.Places.{distance, is_among, place, listed, between}
use Rattle.em_regs.specs.Ring.{following}

-- ---- places

pub following_in : (n i : ℕ) → i < n → following n i < n
following_in n i h = grind (arith, nat_tests)

pub following_apart : (n i j : ℕ) → i < n → j < n → i ≢ j → following n i ≢ following n j
following_apart n i j a b c = λ e. c (grind (arith, nat_tests))

pub distance_in : (n a i : ℕ) → a < n → i < n → distance n a i < n
distance_in n a i h k = grind (arith, nat_tests)

pub place_in : (n a j : ℕ) → a < n → j < n → place n a j < n
place_in n a j h k = grind (arith, nat_tests)

place_of : (n a i : ℕ) → a < n → i < n → place n a (distance n a i) ≡ i
place_of n a i h k = grind (arith, nat_tests)

distance_of : (n a j : ℕ) → a < n → j < n → distance n a (place n a j) ≡ j
distance_of n a j h k = grind (arith, nat_tests)

place_none : (n a : ℕ) → a < n → place n a 0 ≡ a
place_none n a h = grind (arith, nat_tests)

place_next : (n a j : ℕ) → a < n → suc j < n → place n (following n a) j ≡ place n a (suc j)
place_next n a j h k = grind (arith, nat_tests)

pub distance_more : (n a b : ℕ) → a < n → b < n → following n b ≢ a → distance n a (following n b) ≡ suc
    (distance n a b)
distance_more n a b h k apart = grind (arith, nat_tests)

pub distance_less : (n a b : ℕ) → a < n → b < n → a ≢ b → distance n a b ≡ suc (distance n (following n a) b)
distance_less n a b h k apart = grind (arith, nat_tests)

-- ---- which places are among those from a up to but not b

pub among_first : (n a b : ℕ) → a < n → b < n → a ≢ b → is_among n a b a ≡ true
among_first n a b h k apart = grind (arith, nat_tests)

pub among_none : (n a i : ℕ) → is_among n a a i ≡ false
among_none n a i = grind (arith, nat_tests)

pub among_end : (n a b : ℕ) → is_among n a b b ≡ false
among_end n a b = grind (arith, nat_tests)

-- b moves on
pub grow_here : (n a b : ℕ) → a < n → b < n → following n b ≢ a → is_among n a (following n b) b ≡ true
grow_here n a b h k apart = grind (arith, nat_tests, distance_more n a b h k apart)

pub grow_other : (n a b i : ℕ) → a < n → b < n → following n b ≢ a → i < n → i ≢ b
    → is_among n a (following n b) i ≡ is_among n a b i
grow_other n a b i h k apart l other =
    let more = distance_more n a b h k apart in
    let apart : distance n a i ≢ distance n a b
    = λ e. other (sym (place_of n a i h l) ∙ ap (place n a) e ∙ place_of n a b h k) in
    grind (arith, nat_tests)

-- a moves on
pub shrink_here : (n a b : ℕ) → a < n → b < n → a ≢ b → is_among n (following n a) b a ≡ false
shrink_here n a b h k apart = grind (arith, nat_tests)

pub shrink_other : (n a b i : ℕ) → a < n → b < n → a ≢ b → i < n → i ≢ a
    → is_among n (following n a) b i ≡ is_among n a b i
shrink_other n a b i h k apart l other =
    let less = distance_less n a b h k apart in
    let below = distance_less n a i h l (λ e. other (sym e)) in
    grind (arith, nat_tests)

-- ---- what a function gives of those places

listed_more : {X : Type 0} (f : ℕ → X) (k : ℕ) → listed f (suc k) ≡ listed f k ++ f k ∷ []
listed_more f zero = refl
listed_more f (suc k) = ap (λ xs. f 0 ∷ xs) (listed_more (λ j. f (suc j)) k)

listed_same : {X : Type 0} (f g : ℕ → X) (k : ℕ) → ((j : ℕ) → j < k → f j ≡ g j) → listed f k ≡ listed g k
listed_same f g zero h = refl
listed_same f g (suc k) h =
    let here = h 0 (omega arith) in
    let below = listed_same (λ j. f (suc j)) (λ j. g (suc j)) k (λ j l. h (suc j) (omega arith)) in
    λ i. here i ∷ below i

pub between_grow : {X : Type 0} (n a b : ℕ) (f : ℕ → X) → a < n → b < n → following n b ≢ a
    → between n a (following n b) f ≡ between n a b f ++ f b ∷ []
between_grow n a b f h k apart =
    ap (listed (λ j. f (place n a j))) (distance_more n a b h k apart)
    ∙ listed_more (λ j. f (place n a j)) (distance n a b)
    ∙ ap (λ i. between n a b f ++ f i ∷ []) (place_of n a b h k)

pub between_shrink : {X : Type 0} (n a b : ℕ) (f : ℕ → X) → a < n → b < n → a ≢ b
    → between n a b f ≡ f a ∷ between n (following n a) b f
between_shrink n a b f h k apart =
    let inside = distance_in n a b h k in
    let less = distance_less n a b h k apart in
    let next = listed_same (λ j. f (place n a (suc j))) (λ j. f (place n (following n a) j))
    (distance n (following n a) b) (λ j l. ap f (sym (place_next n a j h (omega arith)))) in
    ap (listed (λ j. f (place n a j))) less
    ∙ ap (λ i. f i ∷ listed (λ j. f (place n a (suc j))) (distance n (following n a) b)) (place_none n a h)
    ∙ ap (λ xs. f a ∷ xs) next

pub between_same : {X : Type 0} (n a b : ℕ) (f g : ℕ → X) → a < n → b < n
    → ((i : ℕ) → i < n → is_among n a b i ≡ true → f i ≡ g i) → between n a b f ≡ between n a b g
between_same n a b f g h k same =
    let inside = distance_in n a b h k in
    listed_same (λ j. f (place n a j)) (λ j. g (place n a j)) (distance n a b)
    (λ j l.
    let low : j < n = omega arith in
    let there : distance n a (place n a j) < distance n a b = omega (arith, distance_of n a j h low) in
    same (place n a j) (place_in n a j h low) (lt-ltb _ _ there))

pub between_none : {X : Type 0} (n a : ℕ) (f : ℕ → X) → between n a a f ≡ []
between_none n a f =
    let none : distance n a a ≡ 0 = grind (arith, nat_tests) in
    ap (listed (λ j. f (place n a j))) none
