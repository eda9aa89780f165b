-- Steps back of a machine with its notes, several at a time, and the note of its newest event.
use Rattle.std.proofs.Common.{◌≡◌, ℕ, ◌+◌, ◌<◌, zero, suc, List, [], ◌∷◌, length, take, drop, Some, refl, sym, ap}
use Rattle.std.proofs.Common.{◌∙◌, arith}
use Rattle.std.specs.Prelude.{slice_get, min, None}
use Rattle.em_step.specs.State.{State}
use Rattle.em_journal.specs.View as journal
use Rattle.em_journal.specs.View.{View, back_to, after_back}
use Rattle.em_journal.proofs.BackLaws as one
use Rattle.em_trail.specs.Trail.{TakesBack}
use Rattle.em_trail.specs.declared.note.Note.{Note}
use Rattle.em_c.specs.declared.tagged.Tagged.{Tagged}
use Rattle.em_c.specs.Tagged.{backs}

-- two machines with the same view and notes, of which nothing else differs, are the same
same : (t u : Tagged) → t.traced.view ≡ u.traced.view → t.traced.notes ≡ u.traced.notes → t.tag ≡ u.tag
    → t.handed ≡ u.handed → t ≡ u
same t u view notes tag handed =
    λ i. record { traced = record { view = view i; notes = notes i }; tag = tag i; handed = handed i }

drop_one_more : (k : ℕ) (xs : List Note) (x : Note) (ys : List Note) → drop k xs ≡ x ∷ ys → drop (suc k) xs ≡ ys
drop_one_more zero [] x ys is = cc
drop_one_more zero (z ∷ xs) x ys is = cc
drop_one_more (suc k) [] x ys is = cc
drop_one_more (suc k) (z ∷ xs) x ys is = drop_one_more k xs x ys is

-- k steps are taken, and one more
pub more_back : (k : ℕ) (t u w : Tagged) (note : Note) → u ≡ backs k t → TakesBack u.traced w.traced note
    → w.tag ≡ u.tag → w.handed ≡ u.handed → w ≡ backs (k + 1) t
more_back k t u w note is back tag handed =
    let next : suc k ≡ k + 1 = omega arith in
    same w (backs (k + 1) t)
    (one.more_back k t.traced.view u.traced.view w.traced.view (ap (λ (x : Tagged). x.traced.view) is) back.went.1)
    (sym (drop_one_more k t.traced.notes note w.traced.notes (sym (ap (λ (x : Tagged). x.traced.notes) is) ∙
    back.told))
    ∙ ap (λ n. drop n t.traced.notes) next)
    (tag ∙ ap (λ (x : Tagged). x.tag) is)
    (handed ∙ ap (λ (x : Tagged). x.handed) is)

-- some are left as long as fewer were taken than there are
pub some_left : (k : ℕ) (t u : Tagged) → u ≡ backs k t → k < length t.traced.notes → u.traced.notes ≡ [] → ⊥
some_left k t u is lt none =
    none_left k t.traced.notes lt (sym (ap (λ (x : Tagged). x.traced.notes) is) ∙ none)
  where
    none_left : (k : ℕ) (xs : List Note) → k < length xs → drop k xs ≡ [] → ⊥
    none_left zero [] lt is = absurd (omega arith)
    none_left zero (x ∷ xs) lt is = cc
    none_left (suc k) [] lt is = absurd (omega arith)
    none_left (suc k) (x ∷ xs) lt is = none_left k xs (omega arith) is

drop_least : (n : ℕ) (xs : List Note) → drop (min n (length xs)) xs ≡ drop n xs
drop_least zero xs =
    let none : min 0 (length xs) ≡ 0 = omega arith in
    ap (λ k. drop k xs) none
drop_least (suc n) [] =
    let none : min (suc n) 0 ≡ 0 = omega arith in
    ap (λ (k : ℕ). drop k (the_empty)) none
  where
    the_empty : List Note
    the_empty = []
drop_least (suc n) (x ∷ xs) =
    let more : min (suc n) (suc (length xs)) ≡ suc (min n (length xs)) = omega arith in
    ap (λ k. drop k (x ∷ xs)) more ∙ drop_least n xs

backs_least : (n : ℕ) (past : List State) (v : View) → v.past ≡ past
    → journal.after_backs (min n (length past)) v ≡ journal.after_backs n v
backs_least zero past v is =
    let none : min 0 (length past) ≡ 0 = omega arith in
    ap (λ k. journal.after_backs k v) none
backs_least (suc n) [] v is =
    let none : min (suc n) 0 ≡ 0 = omega arith in
    ap (λ k. journal.after_backs k v) none ∙ one.no_more_back 0 (suc n) v v refl (omega arith) is
backs_least (suc n) (s ∷ past) v is =
    let more : min (suc n) (suc (length past)) ≡ suc (min n (length past)) = omega arith in
    ap (λ k. journal.after_backs k v) more
    ∙ backs_least n past (after_back v) (ap (λ (p : List State). (back_to p v).past) is)

-- as many as were asked for, or as there are
pub all_back : (n k : ℕ) (t u : Tagged) → u ≡ backs k t → k ≡ min n (length t.traced.view.past)
    → length t.traced.notes ≡ length t.traced.view.past → u ≡ backs n t
all_back n k t u is most beside =
    let most_notes : k ≡ min n (length t.traced.notes) = most ∙ ap (min n) (sym beside) in
    is ∙ same (backs k t) (backs n t)
    (ap (λ m. journal.after_backs m t.traced.view) most ∙ backs_least n t.traced.view.past t.traced.view refl)
    (ap (λ m. drop m t.traced.notes) most_notes ∙ drop_least n t.traced.notes)
    refl
    refl

-- ---- the note of the newest event

pub first_note : (n : ℕ) (x : Note) (xs notes : List Note) (found : Note) → notes ≡ take n (x ∷ xs)
    → Some found ≡ slice_get notes 0 → found ≡ x
first_note zero x xs notes found is got = cc
first_note (suc n) x xs notes found is got = cc

pub has_first : (notes : List Note) → 0 < length notes → None ≡ slice_get notes 0 → ⊥
has_first [] lt none = absurd (omega arith)
has_first (x ∷ xs) lt none = cc
