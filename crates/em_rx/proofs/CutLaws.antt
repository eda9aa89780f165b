-- Octets that are cut into frames.
use Rattle.std.proofs.Common.{◌≡◌, ℕ, ◌+◌, ◌*◌, ◌≤◌, List, [], ◌∷◌, ◌++◌, length, take, drop, refl, sym, ap, ap₂, ◌∙◌}
use Rattle.std.proofs.Common.{arith, length-drop}
use Rattle.std.proofs.lemmas.List.{length-take-le, drop-drop, take-take, drop-take}
use Rattle.std.proofs.lemmas.List.Sums.{sum_by-cons}
use Rattle.std.proofs.lemmas.List.Elements.{All-head, All-tail}
use Rattle.std.specs.Prelude.{All, sum_by}
use Rattle.em_rx.specs.Frame.{Frame, len_of}
use Rattle.em_rx.specs.Fifo.{cut, total, IsWithin}
use Rattle.em_rx.specs.declared.places.Entry.{Entry}

-- an entry of a frame as long as the least one stored
abbrev pub IsLong : Entry → Type 0
IsLong e = 56 ≤ e.len

total-cons : (e : Entry) (es : List Entry) → total (e ∷ es) ≡ e.len + total es
total-cons e es = sum_by-cons (λ (x : Entry). x.len) e es

pub length-cut : (es : List Entry) (m : List ℕ) → length (cut es m) ≡ length es
length-cut [] m = refl
length-cut (e ∷ es) m = omega (arith, length-cut es (drop e.len m))

-- the frames have as many octets as their entries say
pub octets_in-cut : (es : List Entry) (m : List ℕ) → total es ≤ length m → sum_by len_of (cut es m) ≡ total es
octets_in-cut [] m h = refl
octets_in-cut (e ∷ es) m h =
    let s = total-cons e es in
    let f : Frame = record { octets = take e.len m; tag = e.tag } in
    sum_by-cons len_of f (cut es (drop e.len m))
    ∙ omega (
      arith,
      s,
      length-take-le e.len m (omega (arith, s)),
      octets_in-cut es (drop e.len m) (omega (arith, s, length-drop e.len m)),
    )

-- a frame more at the end
pub cut_push : (es : List Entry) (e : Entry) (m : List ℕ) →
    cut (es ++ e ∷ []) m ≡ cut es m ++ record { octets = take e.len (drop (total es) m); tag = e.tag } ∷ []
cut_push [] e m = refl
cut_push (x ∷ es) e m =
    let f : Frame = record { octets = take x.len m; tag = x.tag } in
    let rest : drop (total es) (drop x.len m) ≡ drop (total (x ∷ es)) m
    = drop-drop (total es) x.len m ∙ ap (λ (n : ℕ). drop n m) (sym (total-cons x es)) in
    ap (λ (fs : List Frame). f ∷ fs)
    (
    cut_push es e (drop x.len m)
    ∙ ap (λ (y : List ℕ). cut es (drop x.len m) ++ record { octets = take e.len y; tag = e.tag } ∷ []) rest
    )

-- only the octets of frames count
pub cut_same : (es : List Entry) (m w : List ℕ) → take (total es) m ≡ take (total es) w → cut es m ≡ cut es w
cut_same [] m w is = refl
cut_same (x ∷ es) m w is =
    let n : ℕ = x.len + total es in
    let same : take n m ≡ take n w
    = ap (λ (k : ℕ). take k m) (sym (total-cons x es)) ∙ is ∙ ap (λ (k : ℕ). take k w) (total-cons x es) in
    let first : take x.len m ≡ take x.len w
    = sym (take-take x.len n m (omega arith)) ∙ ap (take x.len) same ∙ take-take x.len n w (omega arith) in
    let others : take (total es) (drop x.len m) ≡ take (total es) (drop x.len w)
    = sym (drop-take x.len (total es) m) ∙ ap (drop x.len) same ∙ drop-take x.len (total es) w in
    ap₂ (λ (o : List ℕ) (fs : List Frame). record { octets = o; tag = x.tag } ∷ fs) first
    (cut_same es (drop x.len m) (drop x.len w) others)

-- long frames are few
pub few : (es : List Entry) → All IsLong es → 56 * length es ≤ total es
few [] h = omega arith
few (e ∷ es) h = omega (arith, total-cons e es, few es (All-tail IsLong e es h), All-head IsLong e es h)

-- not all of the first frame is taken, also where one comes behind it
pub within_push : (t : ℕ) (es : List Entry) (e : Entry) → IsWithin t es → IsLong e → IsWithin t (es ++ e ∷ [])
within_push t [] e h long = omega arith
within_push t (x ∷ es) e h long = h
