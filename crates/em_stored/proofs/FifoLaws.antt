-- A copy of a FIFO that lets go of its frames one after another.
use Rattle.std.proofs.Common.{◌≡◌, ◌≤◌, Option, ℕ, ◌+◌, ◌<◌, false, ltb, List, ◌∷◌, length, drop, get_or}
use Rattle.std.proofs.Common.{take, refl, sym, ap, subst, ◌∙◌, arith, length-drop}
use Rattle.std.proofs.lemmas.List.{drop_more, drop-drop, take_all}
use Rattle.std.proofs.lemmas.List.Elements.{All-more, All-same}
use Rattle.std.specs.List.{All}
use Rattle.std.proofs.lemmas.Bool.{le-ltb}
use Rattle.em_rx.specs.Fifo.{Fifo, after_delivery, first, rest}
use Rattle.em_rx.specs.Frame.{Frame}
use Rattle.em_stored.specs.Machines.{IsTag}

first_of : (f : Fifo) (x : Frame) (xs : List Frame) → f.frames ≡ x ∷ xs → first f ≡ x
first_of f x xs e = rw e refl

-- the first of those that are left
pub first_left : (f : Fifo) (frames : List Frame) (k : ℕ) (d : Frame) → f.frames ≡ drop k frames → k < length frames
    → first f ≡ get_or frames k d
first_left f frames k d left lt =
    first_of f (get_or frames k d) (drop (k + 1) frames) (left ∙ drop_more frames k d lt)

-- with its rest it leaves
pub passed : (f : Fifo) (n : ℕ) → n ≡ rest f → 0 < n → (after_delivery f n).frames ≡ drop 1 f.frames
passed f n is some =
    let past : ltb (f.taken + n) (length (first f).octets) ≡ false
    = le-ltb (f.taken + n) (length (first f).octets) (omega arith) in
    rw past refl

-- and then one fewer is left
pub one_fewer : (f g : Fifo) (frames : List Frame) (k n : ℕ) → f.frames ≡ drop k frames → n ≡ rest f → 0 < n
    → g ≡ after_delivery f n → g.frames ≡ drop (k + 1) frames
one_fewer f g frames k n left is some e =
    ap (λ (h : Fifo). h.frames) e ∙ passed f n is some ∙ ap (drop 1) left ∙ drop-drop 1 k frames

-- some are left before the last
pub some_left : (f : Fifo) (frames : List Frame) (k : ℕ) → f.frames ≡ drop k frames → k < length frames
    → 0 < length f.frames
some_left f frames k left lt = omega (arith, ap length left, length-drop k frames)

-- the tag of one more
pub tagged_more : (f : Fifo) (frames : List Frame) (k : ℕ) (d : Frame) (tag : Option ℕ) → first f ≡ get_or frames k d
    → k < length frames → tag ≡ (first f).tag → IsTag tag → All (λ (x : Frame). IsTag x.tag) (take k frames)
    → All (λ (x : Frame). IsTag x.tag) (take (k + 1) frames)
tagged_more f frames k d tag is lt same h tags =
    All-more (λ (x : Frame). IsTag x.tag) frames k d lt tags
    (subst IsTag (same ∙ ap (λ (x : Frame). x.tag) is) h)

-- those of all
pub tagged_all : (frames : List Frame) (k : ℕ) → length frames ≤ k → All (λ (x : Frame). IsTag x.tag) (take k frames)
    → All (λ (x : Frame). IsTag x.tag) frames
tagged_all frames k le h = All-same (λ (x : Frame). IsTag x.tag) frames (take k frames) (sym (take_all k frames le)) h
