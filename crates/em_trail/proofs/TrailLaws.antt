-- A trail to which a note comes, and what its notes tell.
use Rattle.std.proofs.Common.{◌≡◌, ℕ, ◌/◌, ◌<◌, ◌≤◌, zero, suc, List, [], ◌∷◌, length, take, Some}
use Rattle.std.proofs.Common.{refl, sym, ap, ◌∙◌, subst, arith}
use Rattle.std.specs.Prelude.{slice_get, IfSome, Option, None, min}
use Rattle.std.proofs.lemmas.List.{length-take, take-take}
use Rattle.circular_buffer.specs.Buffer.{Buffer, buffer}
use Rattle.em_step.specs.State.{State}
use Rattle.em_step.specs.Event.{Event}
use Rattle.em_step.specs.Cost.{cost, least_cost}
use Rattle.em_step.specs.declared.event.Answer.{Answer}
use Rattle.em_journal.specs.View.{View, states, reach}
use Rattle.em_journal.specs.History.{Does, performs}
use Rattle.em_trail.specs.declared.note.Note.{Note}
use Rattle.em_trail.specs.Dma.{dma_of}
use Rattle.em_trail.specs.Note.{note_of}
use Rattle.em_trail.specs.Trail.{Tells, IsTrail, HoldsTrail, newest, TellsAt}

pub length-trail : (s : State) (past : List State) (notes : List Note) → IsTrail s past notes
    → length notes ≡ length past
length-trail s [] [] h = refl
length-trail s (p ∷ past) (n ∷ notes) h = ap suc (length-trail p past notes h.1)
length-trail s [] (n ∷ notes) h = absurd h
length-trail s (p ∷ past) [] h = absurd h

trail-take : (k : ℕ) (s : State) (past : List State) (notes : List Note) → IsTrail s past notes
    → IsTrail s (take k past) (take k notes)
trail-take zero s past notes h = tt
trail-take (suc k) s [] [] h = tt
trail-take (suc k) s (p ∷ past) (n ∷ notes) h = (h.0, trail-take k p past notes h.1)
trail-take (suc k) s [] (n ∷ notes) h = absurd h
trail-take (suc k) s (p ∷ past) [] h = absurd h

take-length : {X : Type 0} (n : ℕ) (xs : List X) → take (length (take n xs)) xs ≡ take n xs
take-length zero xs = refl
take-length (suc n) [] = refl
take-length (suc n) (x ∷ xs) = ap (λ l. x ∷ l) (take-length n xs)

-- of the states before an event as many stay as the journal has records
past_is : (v w : View) (event : Event) (answer : Answer) → Does v (performs event answer) w
    → w.past ≡ take (length w.past) (states v)
past_is v w event answer does =
    let n = reach v.budget (cost v.present event ∷ v.costs) in
    let is : w.past ≡ take n (states v) = ap (λ (x : View). x.past) does.1 in
    is ∙ sym (take-length n (states v)) ∙ ap (λ past. take (length past) (states v)) (sym is)

-- no event makes more than one state more to go back to
one_more : (v w : View) (event : Event) (answer : Answer) → Does v (performs event answer) w
    → length w.past ≤ suc (length v.past)
one_more v w event answer does =
    let n = length w.past in
    let is : n ≡ min n (length (states v)) = ap length (past_is v w event answer does) ∙ length-take n (states v) in
    omega arith

take-cons : {X : Type 0} (m n : ℕ) (x : X) (xs : List X) → m ≤ suc n → take m (x ∷ xs) ≡ take m (x ∷ take n xs)
take-cons zero n x xs le = refl
take-cons (suc m) n x xs le = ap (λ l. x ∷ l) (sym (take-take m n xs (omega arith)))

-- an event was performed: of its note and those before as many are a trail as the journal has records
trail-noted : (v w : View) (notes : List Note) (note : Note) (event : Event) (answer : Answer) (tag : ℕ)
    → IsTrail v.present v.past notes → Does v (performs event answer) w → note ≡ note_of (dma_of v.present event) event answer tag
    → IsTrail w.present w.past (take (length w.past) (note ∷ notes))
trail-noted v w notes note event answer tag old does noted =
    let tells : Tells note v.present w.present
    = record { event = event; answer = answer; tag = tag; stepped = does.0; noted = noted } in
    let all : IsTrail w.present (states v) (note ∷ notes) = (tells, old) in
    subst (λ past. IsTrail w.present past (take (length w.past) (note ∷ notes)))
    (sym (past_is v w event answer does)) (trail-take (length w.past) w.present (states v) (note ∷ notes) all)

-- the ring's newest notes are then its note, and those before
pub newest_noted : (v w : View) (old new : Buffer Note) (note : Note) (event : Event) (answer : Answer)
    → Does v (performs event answer) w → new ≡ buffer (take old.capacity (note ∷ old.items)) old.capacity
    → length w.past ≤ old.capacity → newest w new.items ≡ take (length w.past) (note ∷ newest v old.items)
newest_noted v w old new note event answer does put room =
    ap (λ (b : Buffer Note). take (length w.past) b.items) put
    ∙ take-take (length w.past) old.capacity (note ∷ old.items) room
    ∙ take-cons (length w.past) (length v.past) note old.items (one_more v w event answer does)

-- its note was put first in the ring, which had a place for each record
pub holds-noted : (v w : View) (old new : Buffer Note) (note : Note) (event : Event) (answer : Answer) (tag : ℕ)
    → HoldsTrail old v → Does v (performs event answer) w → note ≡ note_of (dma_of v.present event) event answer tag
    → new ≡ buffer (take old.capacity (note ∷ old.items)) old.capacity → length w.past ≤ old.capacity
    → HoldsTrail new w
holds-noted v w old new note event answer tag held does noted put room =
    record {
      trail = subst (IsTrail w.present w.past) (sym (newest_noted v w old new note event answer does put room))
          (trail-noted v w (newest v old.items) note event answer tag held.trail does noted);
      places = ap (λ (b : Buffer Note). b.capacity) put ∙ held.places
          ∙ ap (λ (x : View). x.budget / least_cost) (sym does.1);
    }

-- what the k-th note tells of
pub tells_at : (k : ℕ) (s : State) (past : List State) (notes : List Note) (note : Note) → IsTrail s past notes
    → slice_get notes k ≡ Some note → TellsAt (s ∷ past) k note
tells_at zero s (p ∷ past) (n ∷ notes) note h e =
    let same : n ≡ note = cc in
    record { before = p; after = s; led_from = refl; led_to = refl; tells = subst (λ m. Tells m p s) same h.0 }
tells_at (suc k) s (p ∷ past) (n ∷ notes) note h e =
    let one = tells_at k p past notes note h.1 e in
    record { before = one.before; after = one.after; led_from = one.led_from; led_to = one.led_to; tells = one.tells }
tells_at k s [] [] note h e = cc
tells_at k s [] (n ∷ notes) note h e = absurd h
tells_at k s (p ∷ past) [] note h e = absurd h

pub some_tells : (found : Option Note) (k : ℕ) (s : State) (past : List State) (notes : List Note)
    → IsTrail s past notes → found ≡ slice_get notes k → IfSome found (λ note. TellsAt (s ∷ past) k note)
some_tells None k s past notes h e = tt
some_tells (Some note) k s past notes h e = tells_at k s past notes note h (sym e)

-- among the first n
pub slice_get-take : (n : ℕ) (xs : List Note) (k : ℕ) → k < n → slice_get (take n xs) k ≡ slice_get xs k
slice_get-take zero xs k lt = absurd (omega arith)
slice_get-take (suc n) [] k lt = refl
slice_get-take (suc n) (x ∷ xs) zero lt = refl
slice_get-take (suc n) (x ∷ xs) (suc k) lt = slice_get-take n xs k (omega arith)
