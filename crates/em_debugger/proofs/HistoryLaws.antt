-- The lines that did something, from behind one up to another.
use Rattle.std.proofs.Common.{◌≡◌, ℕ, zero, suc, ◌+◌, ◌-◌, ◌<◌, ◌≤◌, Bool, true, false, cond, List, [], ◌∷◌, ◌++◌}
use Rattle.std.proofs.Common.{length, take, drop, Option, Result, Ok, Err, subst}
use Rattle.std.proofs.Common.{refl, sym, ap, ◌∙◌, arith, inl, inr, append-nil, length-append, zero-add, add-zero}
use Rattle.std.proofs.lemmas.Bool.{cases_lt}
use Rattle.std.proofs.lemmas.List.Elements.{filter-append}
use Rattle.std.proofs.lemmas.List.Concat.{flat_map-append}
use Rattle.std.specs.Prelude.{OnOk, filter, ◌⊎◌}
use Rattle.std.specs.List.{flat_map, range_with_len}
use Rattle.std.specs.Io.KnownBytes.{Appends}
use Rattle.em_text.specs.Writer.{Writes, WritesPart}
use Rattle.em_text.proofs.WritingLemmas.{Appends-more, Appends-same, WritesPart-front, WritesPart-more}
use Rattle.em_journal.specs.View.{states}
use Rattle.em_trail.specs.Trail.{TellsAt}
use Rattle.em_trail.specs.declared.note.Note.{Note}
use Rattle.em_tape.specs.Tape.{Tape, event_of}
use Rattle.em_named.specs.declared.did.Did.{Did}
use Rattle.em_debugger.specs.declared.debugger.Debugger.{Debugger}
use Rattle.em_debugger.specs.History.{Opens, ShowsLines, ahead_text, opened, opened_text, opens_more, opens_none, so_far_text}
use Rattle.em_debugger.specs.History.{did_something, line_opened, newest_line, lines_between, last_of, line_text, lines_text}

-- ---- the newest line

pub newest_before : (noted : List Did) (line : ℕ) → 0 < line → did_something noted line ≡ false
    → newest_line noted line ≡ newest_line noted (line - 1)
newest_before noted zero some none = absurd (omega arith)
newest_before noted (suc k) some none =
    let same : k ≡ suc k - 1 = omega arith in
    ap (λ b. cond b (suc k) (newest_line noted k)) none ∙ ap (newest_line noted) same

pub newest_here : (noted : List Did) (line : ℕ) → did_something noted line ≡ true → newest_line noted line ≡ line
newest_here noted zero some = refl
newest_here noted (suc k) some = ap (λ b. cond b (suc k) (newest_line noted k)) some

-- ---- lines, cut in two

pub range-append : (a n m : ℕ) → range_with_len a (n + m) ≡ range_with_len a n ++ range_with_len (a + n) m
range-append a zero m = ap (range_with_len a) (zero-add m) ∙ ap (λ x. range_with_len x m) (sym (add-zero a))
range-append a (suc n) m =
    let longer : suc n + m ≡ suc (n + m) = omega arith in
    let later : (a + 1) + n ≡ a + suc n = omega arith in
    ap (range_with_len a) longer ∙ ap (λ l. a ∷ l) (range-append (a + 1) n m)
    ∙ ap (λ x. (a ∷ range_with_len (a + 1) n) ++ range_with_len x m) later

pub between_cut : (noted : List Did) (before at last : ℕ) → before ≤ at → at ≤ last
    → lines_between noted before last ≡ lines_between noted before at ++ lines_between noted at last
between_cut noted before at last p q =
    let whole : last - before ≡ (at - before) + (last - at) = omega arith in
    let from : (before + 1) + (at - before) ≡ at + 1 = omega arith in
    ap (λ n. filter (did_something noted) (range_with_len (before + 1) n)) whole
    ∙ ap (filter (did_something noted)) (range-append (before + 1) (at - before) (last - at))
    ∙ filter-append (did_something noted) (range_with_len (before + 1) (at - before))
    (range_with_len ((before + 1) + (at - before)) (last - at))
    ∙ ap (λ n. lines_between noted before at ++ filter (did_something noted) (range_with_len n (last - at))) from

pub between_none : (noted : List Did) (before last : ℕ) → last ≤ before → lines_between noted before last ≡ []
between_none noted before last le =
    let none : last - before ≡ 0 = omega arith in
    ap (λ n. filter (did_something noted) (range_with_len (before + 1) n)) none

pub between_one : (noted : List Did) (k : ℕ) (did : Bool) → did_something noted (k + 1) ≡ did
    → lines_between noted k (k + 1) ≡ cond did ((k + 1) ∷ []) []
between_one noted k did is =
    let one : (k + 1) - k ≡ 1 = omega arith in
    ap (λ n. filter (did_something noted) (range_with_len (k + 1) n)) one ∙ ap (λ b. cond b ((k + 1) ∷ []) []) is

count_one : (k : ℕ) (did : Bool) → length (cond did ((k + 1) ∷ []) []) ≡ cond did 1 0
count_one k true = refl
count_one k false = refl

-- one line more, at the front or behind
pub count_before : (noted : List Did) (before here : ℕ) (did : Bool) → 0 < before → before ≤ here
    → did_something noted before ≡ did
    → length (lines_between noted (before - 1) here) ≡ cond did 1 0 + length (lines_between noted before here)
count_before noted before here did some le is =
    let k = before - 1 in
    let next : k + 1 ≡ before = omega arith in
    let one : length (lines_between noted k before) ≡ cond did 1 0 =
    ap (λ n. length (lines_between noted k n)) (sym next)
    ∙ ap length (between_one noted k did (ap (did_something noted) next ∙ is)) ∙ count_one k did in
    ap length (between_cut noted k before here (omega arith) le)
    ∙ length-append (lines_between noted k before) (lines_between noted before here)
    ∙ ap (λ n. n + length (lines_between noted before here)) one

pub between_next : (noted : List Did) (here last : ℕ) (did : Bool) → here ≤ last → did_something noted (last + 1) ≡ did
    → lines_between noted here (last + 1) ≡ lines_between noted here last ++ cond did ((last + 1) ∷ []) []
between_next noted here last did le is =
    between_cut noted here last (last + 1) le (omega arith)
    ∙ ap (λ l. lines_between noted here last ++ l) (between_one noted last did is)

pub count_behind : (noted : List Did) (here last : ℕ) (did : Bool) → here ≤ last → did_something noted (last + 1) ≡ did
    → length (lines_between noted here (last + 1)) ≡ length (lines_between noted here last) + cond did 1 0
count_behind noted here last did le is =
    ap length (between_next noted here last did le is)
    ∙ length-append (lines_between noted here last) (cond did ((last + 1) ∷ []) [])
    ∙ ap (λ n. length (lines_between noted here last) + n) (count_one last did)

-- ---- as many as are asked for

drop_front : (xs ys : List ℕ) → drop (length xs) (xs ++ ys) ≡ ys
drop_front [] ys = refl
drop_front (x ∷ xs) ys = drop_front xs ys

take_front : (xs ys : List ℕ) → take (length xs) (xs ++ ys) ≡ xs
take_front [] ys = refl
take_front (x ∷ xs) ys = ap (λ l. x ∷ l) (take_front xs ys)

take_all : (xs : List ℕ) (n : ℕ) → length xs ≤ n → take n xs ≡ xs
take_all [] zero le = refl
take_all [] (suc n) le = refl
take_all (x ∷ xs) zero le = absurd (omega arith)
take_all (x ∷ xs) (suc n) le = ap (λ l. x ∷ l) (take_all xs n (omega arith))

pub newest_shown : (noted : List Did) (before here most left : ℕ) → before ≤ here
    → length (lines_between noted before here) + left ≡ most → (left ≡ 0) ⊎ (before ≡ 0)
    → lines_between noted before here ≡ last_of most (lines_between noted 0 here)
newest_shown noted before here most left le count end =
    let front = lines_between noted 0 before in
    let shown = lines_between noted before here in
    let all = lines_between noted 0 here in
    let cut : all ≡ front ++ shown = between_cut noted 0 before here (omega arith) le in
    let long : length all ≡ length front + length shown = ap length cut ∙ length-append front shown in
    elim end [
      | inl none ↦
          let skipped : length all - most ≡ length front = omega arith in
          sym (ap (λ n. drop n all) skipped ∙ ap (drop (length front)) cut ∙ drop_front front shown)
      | inr first ↦
          let same : shown ≡ all = ap (λ n. lines_between noted n here) first in
          let short : length all ≤ most = omega (arith, ap length same) in
          let skipped : length all - most ≡ 0 = omega arith in
          same ∙ sym (ap (λ n. drop n all) skipped)
    ]

pub ahead_shown : (noted : List Did) (here last performed most left : ℕ) → here ≤ last
    → (performed < last → last ≡ here) → length (lines_between noted here last) + left ≡ most
    → (left ≡ 0) ⊎ (performed ≤ last)
    → lines_between noted here last ≡ take most (lines_between noted here performed)
ahead_shown noted here last performed most left le within count end =
    let shown = lines_between noted here last in
    let rest = lines_between noted last performed in
    let all = lines_between noted here performed in
    elim (cases_lt performed last) [
      | inl past ↦
          let none : shown ≡ [] = between_none noted here last (omega (arith, within past)) in
          let none_ahead : all ≡ [] = between_none noted here performed (omega (arith, within past)) in
          none ∙ sym (take_all [] most (omega arith)) ∙ ap (take most) (sym none_ahead)
      | inr ahead ↦
          let cut : all ≡ shown ++ rest = between_cut noted here last performed le ahead in
          elim end [
            | inl none ↦
                let many : most ≡ length shown = omega arith in
                sym (ap (λ n. take n all) many ∙ ap (take (length shown)) cut ∙ take_front shown rest)
            | inr all_shown ↦
                let same : shown ≡ all =
                ap (λ n. lines_between noted here n) (let e : last ≡ performed = omega arith in e) in
                let short : length all ≤ most = omega (arith, ap length same) in
                same ∙ sym (take_all all most short)
          ]
    ]

-- ---- their texts

one_text : (f : ℕ → List ℕ) (line : ℕ) (did : Bool) → flat_map f (cond did (line ∷ []) []) ≡ cond did (f line) []
one_text f line true = append-nil (f line)
one_text f line false = refl

-- one line more
pub lines_text-next : (d : Debugger) (here before k : ℕ) → before ≤ k
    → lines_text d here (lines_between d.tape.did before (k + 1))
    ≡ lines_text d here (lines_between d.tape.did before k)
    ++ cond (did_something d.tape.did (k + 1)) (line_text d here (k + 1)) []
lines_text-next d here before k le =
    let noted = d.tape.did in
    let did = did_something noted (k + 1) in
    ap (lines_text d here) (between_next noted before k did le refl)
    ∙ flat_map-append (line_text d here) (lines_between noted before k) (cond did ((k + 1) ∷ []) [])
    ∙ ap (λ l. lines_text d here (lines_between noted before k) ++ l) (one_text (line_text d here) (k + 1) did)

-- a part of it
pub WritesPart-line : (a b c : Option (List ℕ)) (d : Debugger) (here before k last : ℕ) → before ≤ k → k < last
    → Appends a b (lines_text d here (lines_between d.tape.did before k))
    → WritesPart b c (cond (did_something d.tape.did (k + 1)) (line_text d here (k + 1)) [])
    → WritesPart a c (lines_text d here (lines_between d.tape.did before last))
WritesPart-line a b c d here before k last le lt p q =
    let noted = d.tape.did in
    WritesPart-front (lines_text d here (lines_between noted (k + 1) last))
    (WritesPart-more (lines_text d here (lines_between noted before k)) p q (lines_text-next d here before k le))
    (ap (lines_text d here) (between_cut noted before (k + 1) last (omega arith) (omega arith))
    ∙ flat_map-append (line_text d here) (lines_between noted before (k + 1)) (lines_between noted (k + 1) last))

-- ---- the events of a call

-- one of them was written
pub opened_at : {T E : Type 0} (old new : Option (List ℕ)) (result : Result T E) (tape : Tape) (here back event : ℕ)
    (note : Note) → TellsAt (states tape.session.machine) back note → event ≡ event_of tape - back
    → Writes old new result (opened_text tape here event note)
    → OnOk result ((one : Note) × TellsAt (states tape.session.machine) back one
    × Appends old new (opened_text tape here (event_of tape - back) one))
opened_at old new (Ok x) tape here back event note tells is h =
    (note, tells, subst (λ n. Appends old new (opened_text tape here n note)) is h)
opened_at old new (Err x) tape here back event note tells is h = tt

-- so many of them were written, as far as this one
pub record OpensSo (tape : Tape) (here from to : ℕ) (old new : Option (List ℕ)) : Type 0 where
  pub text : List ℕ
  pub written : Appends old new text
  pub opens : Opens tape here from to text

pub OpensSo-none : (tape : Tape) (here from : ℕ) (old : Option (List ℕ)) → OpensSo tape here from from old old
OpensSo-none tape here from old = record { text = []; written = Appends-same old; opens = opens_none }

pub OpensSo-more : (tape : Tape) (here from to : ℕ) (old now new : Option (List ℕ)) (note : Note) → 0 < to
    → OpensSo tape here from to old now → TellsAt (states tape.session.machine) (to - 1) note
    → Appends now new (opened_text tape here (event_of tape - (to - 1)) note) → OpensSo tape here from (to - 1) old new
OpensSo-more tape here from zero old now new note some h tells one = absurd (omega arith)
OpensSo-more tape here from (suc k) old now new note some h tells one =
    let same : suc k - 1 ≡ k = omega arith in
    subst (λ n. OpensSo tape here from n old new) (sym same) (record {
      text = h.text ++ opened_text tape here (event_of tape - k) note;
      written = Appends-more old now new h.text (opened_text tape here (event_of tape - k) note) _ h.written
          (subst (λ n. Appends now new (opened_text tape here (event_of tape - n) note)) same one) refl;
      opens = opens_more k note h.text h.opens (subst (λ n. TellsAt (states tape.session.machine) n note) same tells);
    })

pub OpensSo-end : (tape : Tape) (here from to : ℕ) (old new : Option (List ℕ)) → to ≡ 0
    → OpensSo tape here from to old new → (text : List ℕ) × Appends old new text × Opens tape here from 0 text
OpensSo-end tape here from to old new is h = (h.text, h.written, subst (λ n. Opens tape here from n h.text) is h.opens)

-- the lines, and the events of a call among them
pub around_shown : {T E : Type 0} (first a b last : Option (List ℕ)) (result : Result T E) (d : Debugger)
    (most here line events : ℕ) → line ≡ line_opened d.tape → events ≡ opened most d.tape line
    → Appends first a (so_far_text d most here) → ((text : List ℕ) × Appends a b text × Opens d.tape line events 0 text)
    → Writes b last result (ahead_text d most here)
    → OnOk result ((text : List ℕ) × Appends first last text × ShowsLines d most here text)
around_shown first a b last (Ok x) d most here line events at is front events_shown ahead = (
  so_far_text d most here ++ (events_shown.0 ++ ahead_text d most here),
  Appends-more first a last (so_far_text d most here) (events_shown.0 ++ ahead_text d most here) _ front
      (Appends-more a b last events_shown.0 (ahead_text d most here) _ events_shown.1 ahead refl) refl,
  record {
    events = events_shown.0;
    opens = subst (λ l. Opens d.tape l (opened most d.tape l) 0 events_shown.0) at
        (subst (λ n. Opens d.tape line n 0 events_shown.0) is events_shown.2);
    told = refl;
  },
)
around_shown first a b last (Err x) d most here line events at is front events_shown ahead = tt
