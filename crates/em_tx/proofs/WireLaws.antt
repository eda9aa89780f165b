-- Frames that lie one after the other in one piece of memory.
use Rattle.std.proofs.Common.{◌≡◌, ℕ, ◌+◌, ◌-◌, ◌<◌, ◌≤◌, List, [], ◌∷◌, ◌++◌, length, take, drop, get_or, refl}
use Rattle.std.proofs.Common.{sym, ap, ◌∙◌, arith, zero, suc}
use Rattle.std.specs.List.{between}
use Rattle.std.proofs.lemmas.List.{take_at, drop_at, take_all, take-take, get_or_default}
use Rattle.std.proofs.lemmas.Slice.{between_is}
use Rattle.std.proofs.Common.{map, set}
use Rattle.std.proofs.Math.Seq.{drop-drop}
use Rattle.em_tx.specs.Wire.{AreEnds, frames_from, let_go}

-- the last place is not before the first
pub ends_least : (a : ℕ) (ends : List ℕ) (n : ℕ) → AreEnds a ends n → a ≤ n
ends_least a [] n are = omega (arith, are)
ends_least a (e ∷ ends) n are = omega (arith, are.0, ends_least e ends n are.1)

-- as many frames as places
pub length-frames_from : (a : ℕ) (ends o : List ℕ) → length (frames_from a ends o) ≡ length ends
length-frames_from a [] o = refl
length-frames_from a (e ∷ ends) o = ap suc (length-frames_from e ends o)

-- a frame lies between the end of the one before it and its own
pub frame_at : (a : ℕ) (ends o : List ℕ) (i : ℕ) → i < length ends
    → between (get_or (a ∷ ends) i 0) (get_or ends i 0) o ≡ get_or (frames_from a ends o) i []
frame_at a [] o i within = absurd (omega arith)
frame_at a (e ∷ ends) o zero within = refl
frame_at a (e ∷ ends) o (suc i) within = frame_at e ends o i (omega (arith, within))

-- its end is not before its start, and lies among the octets
pub bounds : (a : ℕ) (ends : List ℕ) (n i : ℕ) → AreEnds a ends n → i < length ends
    → (get_or (a ∷ ends) i 0 ≤ get_or ends i 0) × (get_or ends i 0 ≤ n)
bounds a [] n i are within = absurd (omega arith)
bounds a (e ∷ ends) n zero are within = (are.0, ends_least e ends n are.1)
bounds a (e ∷ ends) n (suc i) are within = bounds e ends n i are.1 (omega (arith, within))

-- frames that lie before some place are the same whatever lies behind it
frames_from-take : (a : ℕ) (ends o : List ℕ) (n s : ℕ) → AreEnds a ends n → n ≤ s
    → frames_from a ends (take s o) ≡ frames_from a ends o
frames_from-take a [] o n s are most = refl
frames_from-take a (e ∷ ends) o n s are most =
    let within : e ≤ s = omega (arith, ends_least e ends n are.1, most) in
    let same : between a e (take s o) ≡ between a e o
    = between_is (take s o) a e ∙ ap (drop a) (take-take e s o within) ∙ sym (between_is o a e) in
    λ i. same i ∷ frames_from-take e ends o n s are.1 most i

-- the first frames are those of the first places
frames_from-first : (a : ℕ) (ends o : List ℕ) (i : ℕ) → frames_from a (take i ends) o ≡ take i (frames_from a ends o)
frames_from-first a ends o zero = refl
frames_from-first a [] o (suc i) = refl
frames_from-first a (e ∷ ends) o (suc i) = ap (λ t. between a e o ∷ t) (frames_from-first e ends o i)

-- the first places end where the next frame begins
pub first_ends : (a : ℕ) (ends : List ℕ) (n i : ℕ) → AreEnds a ends n → i ≤ length ends
    → AreEnds a (take i ends) (get_or (a ∷ ends) i 0)
first_ends a ends n zero are within = refl
first_ends a [] n (suc i) are within = absurd (omega arith)
first_ends a (e ∷ ends) n (suc i) are within = (are.0, first_ends e ends n i are.1 (omega (arith, within)))

-- the first frames alone
pub first_frames : (a : ℕ) (ends o : List ℕ) (n i : ℕ) → AreEnds a ends n → i ≤ length ends
    → frames_from a (take i ends) (take (get_or (a ∷ ends) i 0) o) ≡ take i (frames_from a ends o)
first_frames a ends o n i are within =
    let s = get_or (a ∷ ends) i 0 in
    frames_from-take a (take i ends) o s s (first_ends a ends n i are within) (omega arith)
    ∙ frames_from-first a ends o i

-- one place more
pub more_ends : (a : ℕ) (ends : List ℕ) (n m : ℕ) → AreEnds a ends n → n ≤ m → AreEnds a (ends ++ m ∷ []) m
more_ends a [] n m are most = (omega (arith, are, most), refl)
more_ends a (e ∷ ends) n m are most = (are.0, more_ends e ends n m are.1 most)

frames_from-append : (a : ℕ) (ends o : List ℕ) (n m : ℕ) → AreEnds a ends n
    → frames_from a (ends ++ m ∷ []) o ≡ frames_from a ends o ++ between n m o ∷ []
frames_from-append a [] o n m are = ap (λ k. between k m o ∷ []) are
frames_from-append a (e ∷ ends) o n m are = ap (λ t. between a e o ∷ t) (frames_from-append e ends o n m are.1)

-- one frame more
pub more_frames : (a : ℕ) (ends o f : List ℕ) → AreEnds a ends (length o)
    → frames_from a (ends ++ (length o + length f) ∷ []) (o ++ f) ≡ frames_from a ends o ++ f ∷ []
more_frames a ends o f are =
    let old : frames_from a ends (o ++ f) ≡ frames_from a ends o
    = sym (frames_from-take a ends (o ++ f) (length o) (length o) are (omega arith))
    ∙ ap (frames_from a ends) (take_at o f (length o) refl) in
    let new : between (length o) (length o + length f) (o ++ f) ≡ f
    = ap (take (length o + length f - length o)) (drop_at o f (length o) refl) ∙ take_all _ f (omega arith) in
    frames_from-append a ends (o ++ f) (length o) (length o + length f) are ∙ (λ i. old i ++ new i ∷ [])

-- what the code reads: places with a default of its own
pub end_read : (ends : List ℕ) (i e : ℕ) → i < length ends → e ≡ get_or ends i e → e ≡ get_or ends i 0
end_read ends i e within is = is ∙ get_or_default ends i e 0 within

-- a frame begins among the octets, or at their end
pub start_most : (a : ℕ) (ends : List ℕ) (n i : ℕ) → AreEnds a ends n → i ≤ length ends → get_or (a ∷ ends) i 0 ≤ n
start_most a ends n zero are within = ends_least a ends n are
start_most a [] n (suc i) are within = absurd (omega arith)
start_most a (e ∷ ends) n (suc i) are within = start_most e ends n i are.1 (omega (arith, within))

-- ---- the first frames without their octets

-- octets from a place on, where that place has become the first
shifted : (a e g : ℕ) (o : List ℕ) → g ≤ a → between (a - g) (e - g) (drop g o) ≡ between a e o
shifted a e g o most =
    let count : (e - g) - (a - g) ≡ e - a = omega (arith, most) in
    let place : g + (a - g) ≡ a = omega (arith, most) in
    ap (λ n. take n (drop (a - g) (drop g o))) count
    ∙ ap (λ xs. take (e - a) xs) (drop-drop (a - g) g o ∙ ap (λ n. drop n o) place)

-- what lies behind that place stays
behind_stay : (a g : ℕ) (ends o : List ℕ) (n : ℕ) → AreEnds a ends n → g ≤ a
    → frames_from (a - g) (map (λ (e : ℕ). e - g) ends) (drop g o) ≡ frames_from a ends o
behind_stay a g [] o n are most = refl
behind_stay a g (e ∷ ends) o n are most =
    λ i. shifted a e g o most i ∷ behind_stay e g ends o n are.1 (omega (arith, most, are.0)) i

-- what lies before it is empty
nothing_before : (a e g : ℕ) (o : List ℕ) → e ≤ g → between (a - g) (e - g) (drop g o) ≡ []
nothing_before a e g o most =
    let none : (e - g) - (a - g) ≡ 0 = omega (arith, most) in
    ap (λ n. take n (drop (a - g) (drop g o))) none

pub frames_let_go : (a : ℕ) (ends o : List ℕ) (n k : ℕ) → AreEnds a ends n → k ≤ length ends
    → (g : ℕ) → g ≡ get_or (a ∷ ends) k 0
    → frames_from (a - g) (map (λ (e : ℕ). e - g) ends) (drop g o) ≡ let_go k (frames_from a ends o)
frames_let_go a ends o n zero are within g is = behind_stay a g ends o n are (omega (arith, is))
frames_let_go a [] o n (suc k) are within g is = absurd (omega arith)
frames_let_go a (e ∷ ends) o n (suc k) are within g is =
    let less : k ≤ length ends = omega (arith, within) in
    let before : e ≤ g = omega (
      arith,
      is,
      ends_least e (take k ends) (get_or (e ∷ ends) k 0)
          (first_ends e ends n k are.1 less),
    ) in
    λ i. nothing_before a e g o before i ∷ frames_let_go e ends o n k are.1 less g is i

pub ends_moved : (a g : ℕ) (ends : List ℕ) (n : ℕ) → AreEnds a ends n
    → AreEnds (a - g) (map (λ (e : ℕ). e - g) ends) (n - g)
ends_moved a g [] n are = ap (λ m. m - g) are
ends_moved a g (e ∷ ends) n are = (omega (arith, are.0), ends_moved e g ends n are.1)

-- ---- each place changed in turn
pub changed_next : (f : ℕ → ℕ) (xs : List ℕ) (i : ℕ) → i < length xs
    → set (map f (take i xs) ++ drop i xs) i (f (get_or (map f (take i xs) ++ drop i xs) i 0))
    ≡ map f (take (suc i) xs) ++ drop (suc i) xs
changed_next f [] i l = absurd (omega arith)
changed_next f (x ∷ xs) zero l = refl
changed_next f (x ∷ xs) (suc i) l = ap (λ ys. f x ∷ ys) (changed_next f xs i (omega (arith, l)))
