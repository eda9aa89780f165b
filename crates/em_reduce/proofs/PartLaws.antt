-- Some of a list's items, and some of these.
use Rattle.std.proofs.Common.{◌≡◌, ℕ, ◌≤◌, zero, suc, List, [], ◌∷◌, ◌++◌, take, drop, Result, Ok, Err, subst, sym, arith}
use Rattle.std.specs.Prelude.{IfOk}
use Rattle.em_reduce.specs.Reduce.{IsPartOf, none, kept, left_out, Reduces}

-- all of them are some
pub IsPartOf-all : {X : Type 0} (xs : List X) → IsPartOf xs xs
IsPartOf-all [] = none
IsPartOf-all (x ∷ xs) = kept x xs xs (IsPartOf-all xs)

-- some of some are some
pub IsPartOf-more : {X : Type 0} {xs ys zs : List X} → IsPartOf xs ys → IsPartOf ys zs → IsPartOf xs zs
IsPartOf-more p none = p
IsPartOf-more (kept x part whole p) (kept _ _ zs q) = kept x part zs (IsPartOf-more p q)
IsPartOf-more (left_out x part whole p) (kept _ _ zs q) = left_out x part zs (IsPartOf-more p q)
IsPartOf-more p (left_out x ys zs q) = left_out x _ zs (IsPartOf-more p q)

-- the last ones
IsPartOf-drop : {X : Type 0} (n : ℕ) (xs : List X) → IsPartOf (drop n xs) xs
IsPartOf-drop zero xs = IsPartOf-all xs
IsPartOf-drop (suc n) [] = none
IsPartOf-drop (suc n) (x ∷ xs) = left_out x _ xs (IsPartOf-drop n xs)

-- all but a piece
pub IsPartOf-without : {X : Type 0} (from to : ℕ) (xs : List X) → from ≤ to → IsPartOf (take from xs ++ drop to xs) xs
IsPartOf-without zero to xs le = IsPartOf-drop to xs
IsPartOf-without (suc from) zero xs le = absurd (omega (arith, le))
IsPartOf-without (suc from) (suc to) [] le = none
IsPartOf-without (suc from) (suc to) (x ∷ xs) le = kept x _ xs (IsPartOf-without from to xs (omega (arith, le)))

-- none was left out yet
pub Reduces-none : {has : List ℕ → Type 0} (items : List ℕ) → has items → Reduces has items items
Reduces-none items h = record { part = IsPartOf-all items; still = h }

-- and then some more
pub Reduces-more : {has : List ℕ → Type 0} {items few fewer : List ℕ} → Reduces has items few → Reduces has few fewer
    → Reduces has items fewer
Reduces-more h more = record { part = IsPartOf-more more.part h.part; still = more.still }

-- a piece was left out
pub Reduces-without : {has : List ℕ → Type 0} {items few : List ℕ} (from to : ℕ) (fewer : List ℕ) → Reduces has items few
    → from ≤ to → fewer ≡ take from few ++ drop to few → has fewer → Reduces has items fewer
Reduces-without {few = few} from to fewer h le is still = record {
  part = IsPartOf-more (subst (λ l. IsPartOf l few) (sym is) (IsPartOf-without from to few le)) h.part;
  still = still;
}

-- of what a function gives
pub IfOk-more : {V E : Type 0} {has : List ℕ → Type 0} (items_of : V → List ℕ) {items few : List ℕ} (result : Result V E)
    → Reduces has items few → IfOk result (λ v. Reduces has few (items_of v)) → IfOk result (λ v. Reduces has items (items_of v))
IfOk-more items_of (Ok v) h more = Reduces-more h more
IfOk-more items_of (Err e) h more = tt
