-- Events that are of no sort, and lists of the newest that are.
use Rattle.std.proofs.Common.{◌≡◌, ◌∙◌, ℕ, ◌+◌, ◌-◌, ◌<◌, ◌≤◌, List, [], ◌∷◌, ◌++◌, length, append_assoc, append-nil}
use Rattle.std.proofs.Common.{length-append, Option, Result, Ok, Err, false, inl, inr, refl, sym, ap, subst, arith}
use Rattle.std.specs.Prelude.{IfOk}
use Rattle.std.specs.List.{flat_map}
use Rattle.std.specs.Io.KnownBytes.{Appends}
use Rattle.std.proofs.lemmas.Bool.{cases_lt}
use Rattle.std.proofs.lemmas.List.{length_push}
use Rattle.std.proofs.lemmas.List.Concat.{flat_map-append}
use Rattle.em_text.proofs.WritingLemmas.{Appends-more, Appends-same}
use Rattle.em_journal.specs.View.{states}
use Rattle.em_trail.specs.Trail.{TellsAt}
use Rattle.em_trail.specs.declared.note.Note.{Note}
use Rattle.em_tape.specs.Tape.{Tape}
use Rattle.em_debugger.specs.declared.accesses.Noted.{Noted}
use Rattle.em_debugger.specs.declared.accesses.Sort.{Sort}
use Rattle.em_debugger.specs.declared.accesses.Ended.{Ended}
use Rattle.em_debugger.specs.declared.accesses.Ended.TheVariants as end
use Rattle.em_debugger.specs.declared.accesses.Listed.{Listed}
use Rattle.em_debugger.specs.declared.accesses.Newest.{Newest}
use Rattle.em_debugger.specs.declared.debugger.Debugger.{Debugger}
use Rattle.em_debugger.specs.declared.accesses.Newest.TheVariants as newest
use Rattle.em_debugger.specs.declared.deeper.Unseen.{Unseen}
use Rattle.em_journal.specs.declared.settings.Settings.{Settings}
use Rattle.em_debugger.specs.Accesses.{AreNewest, IsNewest, IsNewestOf, Lists, NoneOf, WritesHeld, WritesOn}
use Rattle.em_debugger.specs.Accesses.{deeper, full, is_of, noted_line, over, unreached}
use Rattle.em_debugger.specs.Marks.{marks_of}
use Rattle.em_debugger.specs.Deeper.{IsAgain, IsSeen, IsUnseen}
use Rattle.em_debugger.specs.Search.{next_unseen}

-- one more that is of none
pub none_more : (tape : Tape) (s : Sort) (first last : ℕ) (note : Note) → NoneOf tape s first last
    → TellsAt (states tape.session.machine) last note → is_of s note ≡ false → NoneOf tape s first (last + 1)
none_more tape s first last note none tells is k le lt = elim (cases_lt k last) [
  | inl before ↦ none k le before
  | inr behind ↦
      let same : last ≡ k = omega arith in
      (note, (subst (λ n. TellsAt (states tape.session.machine) n note) same tells, is))
]

-- one more that is
pub AreNewest-more : (tape : Tape) (s : Sort) (n : ℕ) (found : List Noted) (last : ℕ) (one : Noted)
    → AreNewest tape s n found last → IsNewestOf tape s last one → AreNewest tape s n (found ++ one ∷ []) one.back
AreNewest-more tape s n [] last one is h = (subst (λ m. IsNewestOf tape s m one) is h, refl)
AreNewest-more tape s n (noted ∷ found) last one all h =
    (all.0, AreNewest-more tape s noted.back found last one all.1 h)

-- ---- a search for one, which goes on over second tapes

-- what it gave on the second tape, it gives on the first
pub found_deeper : (settings : Settings) (first tape deep : Tape) (s : Sort) (given : Newest)
    → NoneOf tape s 0 (length tape.session.machine.past) → 0 < next_unseen tape 0 → IsAgain settings first deep
    → IsSeen (next_unseen tape 0) deep → IsNewest settings first s deep given → IsNewest settings first s tape given
found_deeper settings first tape deep s (newest.Found noted) none some again seen h =
    deeper tape deep 1 0 [] (noted ∷ []) end.Full refl (omega arith) none some again seen h
found_deeper settings first tape deep s newest.Never none some again seen h =
    deeper tape deep 1 0 [] [] end.Over refl (omega arith) none some again seen h
found_deeper settings first tape deep s (newest.Unreached event why) none some again seen h =
    deeper tape deep 1 0 [] [] (end.Unreached event why) refl (omega arith) none some again seen h

-- an event was not seen
pub found_unseen : (settings : Settings) (first tape : Tape) (s : Sort) (next : ℕ) (why : Unseen)
    → NoneOf tape s 0 (length tape.session.machine.past) → next ≡ next_unseen tape 0 → 0 < next
    → IsUnseen settings first next why → IsNewest settings first s tape (newest.Unreached next why)
found_unseen settings first tape s next why none is some unseen =
    subst (λ n. Lists settings first s tape 1 [] (end.Unreached n why)) (sym is)
    (unreached tape 1 0 [] why refl (omega arith) none (omega (arith, is, some))
    (subst (λ n. IsUnseen settings first n why) is unseen))

-- ---- lists as they are written

-- so many of a window were written, and the next is sought so many steps back
pub record HeldSo (d : Debugger) (window : Tape) (s : Sort) (most : ℕ) (old new : Option (List ℕ)) (back count : ℕ)
    : Type 0 where
  pub found : List Noted
  pub newest : AreNewest window s 0 found back
  pub long : count ≡ length found
  pub few : count ≤ most
  pub written : Appends old new (flat_map (noted_line (marks_of d) d.tape) found)

pub HeldSo-none : (d : Debugger) (window : Tape) (s : Sort) (most : ℕ) (old : Option (List ℕ))
    → HeldSo d window s most old old 0 0
HeldSo-none d window s most old =
    record { found = []; newest = refl; long = refl; few = omega arith; written = Appends-same old }

-- of two lists one behind the other
pub written_both : (d : Debugger) (old new later : Option (List ℕ)) (found more : List Noted)
    → Appends old new (flat_map (noted_line (marks_of d) d.tape) found)
    → Appends new later (flat_map (noted_line (marks_of d) d.tape) more)
    → Appends old later (flat_map (noted_line (marks_of d) d.tape) (found ++ more))
written_both d old new later found more first then =
    let text = noted_line (marks_of d) d.tape in
    Appends-more old new later (flat_map text found) (flat_map text more) _ first then (flat_map-append text found more)

-- one more
pub HeldSo-more : (d : Debugger) (window : Tape) (s : Sort) (most : ℕ) (old new later : Option (List ℕ))
    (back count next : ℕ) (one : Noted) → HeldSo d window s most old new back count → count < most
    → IsNewestOf window s back one → Appends new later (noted_line (marks_of d) d.tape one) → next ≡ count + 1
    → HeldSo d window s most old later one.back next
HeldSo-more d window s most old new later back count next one h fewer is written more =
    let text = noted_line (marks_of d) d.tape in
    record {
      found = h.found ++ one ∷ [];
      newest = AreNewest-more window s 0 h.found back one h.newest is;
      long = more ∙ ap (λ n. n + 1) h.long ∙ sym (length_push h.found one);
      few = omega (arith, fewer, more);
      written = Appends-more old new later (flat_map text h.found) (text one) _ h.written written
          (flat_map-append text h.found (one ∷ []) ∙ ap (λ l. flat_map text h.found ++ l) (append-nil (text one)));
    }

-- and then no more are
pub HeldSo-end : (d : Debugger) (window : Tape) (s : Sort) (most : ℕ) (old new : Option (List ℕ)) (back count : ℕ)
    → HeldSo d window s most old new back count
    → (count < most → NoneOf window s back (length window.session.machine.past))
    → WritesHeld d window s most old new count
HeldSo-end d window s most old new back count h none = record {
  found = h.found;
  last = back;
  newest = h.newest;
  long = h.long;
  few = h.few;
  none = none;
  written = h.written;
}

-- from one tape on so many were written, and what a list on this one gives, it gives behind them
pub record GoesOn (d : Debugger) (first tape : Tape) (s : Sort) (before most : ℕ) (old new : Option (List ℕ)) (count : ℕ)
    : Type 0 where
  pub found : List Noted
  pub long : count ≡ before + length found
  pub written : Appends old new (flat_map (noted_line (marks_of d) d.tape) found)
  pub on : (more : List Noted) (e : Ended) → Lists d.settings d.tape s tape (most - count) more e
      → Lists d.settings d.tape s first (most - before) (found ++ more) e

pub GoesOn-none : (d : Debugger) (tape : Tape) (s : Sort) (before most : ℕ) (old : Option (List ℕ))
    → GoesOn d tape tape s before most old old before
GoesOn-none d tape s before most old =
    record { found = []; long = omega arith; written = Appends-same old; on = λ more e lists. lists }

pub GoesOn-then : (d : Debugger) (first tape : Tape) (s : Sort) (before most : ℕ) (old new later : Option (List ℕ))
    (count : ℕ) (listed : Listed) → GoesOn d first tape s before most old new count
    → WritesOn d tape s count most new later listed → WritesOn d first s before most old later listed
GoesOn-then d first tape s before most old new later count listed h w = record {
  found = h.found ++ w.found;
  lists = h.on w.found listed.ended w.lists;
  long = omega (arith, w.long, h.long, length-append h.found w.found);
  written = written_both d old new later h.found w.found h.written w.written;
}

pub GoesOn-result : {E : Type 0} (d : Debugger) (first tape : Tape) (s : Sort) (before most : ℕ)
    (old new later : Option (List ℕ)) (count : ℕ) (result : Result Listed E)
    → GoesOn d first tape s before most old new count → IfOk result (WritesOn d tape s count most new later)
    → IfOk result (WritesOn d first s before most old later)
GoesOn-result d first tape s before most old new later count (Ok listed) h w =
    GoesOn-then d first tape s before most old new later count listed h w
GoesOn-result d first tape s before most old new later count (Err e) h w = tt

-- all that were asked for
pub GoesOn-full : (d : Debugger) (first tape : Tape) (s : Sort) (before most : ℕ) (old new later : Option (List ℕ))
    (count n all : ℕ) → GoesOn d first tape s before most old new count
    → WritesHeld d tape s (most - count) new later n → all ≡ count + n → n ≡ most - count
    → WritesOn d first s before most old later (record { count = all; ended = end.Full })
GoesOn-full d first tape s before most old new later count n all h w is full-so = record {
  found = h.found ++ w.found;
  lists = h.on w.found end.Full (full tape (most - count) w.last w.found w.newest (sym w.long ∙ full-so));
  long = omega (arith, is, h.long, w.long, length-append h.found w.found);
  written = written_both d old new later h.found w.found h.written w.written;
}

-- no more stand
pub GoesOn-over : (d : Debugger) (first tape : Tape) (s : Sort) (before most : ℕ) (old new later : Option (List ℕ))
    (count n all : ℕ) → GoesOn d first tape s before most old new count
    → WritesHeld d tape s (most - count) new later n → all ≡ count + n → n < most - count → next_unseen tape 0 ≡ 0
    → WritesOn d first s before most old later (record { count = all; ended = end.Over })
GoesOn-over d first tape s before most old new later count n all h w is fewer none = record {
  found = h.found ++ w.found;
  lists = h.on w.found end.Over
      (over tape (most - count) w.last w.found w.newest (omega (arith, fewer, w.long)) (w.none fewer) none);
  long = omega (arith, is, h.long, w.long, length-append h.found w.found);
  written = written_both d old new later h.found w.found h.written w.written;
}

-- an event is not seen
pub GoesOn-unseen : (d : Debugger) (first tape : Tape) (s : Sort) (before most : ℕ) (old new later : Option (List ℕ))
    (count n all next : ℕ) (why : Unseen) → GoesOn d first tape s before most old new count
    → WritesHeld d tape s (most - count) new later n → all ≡ count + n → n < most - count → next ≡ next_unseen tape 0
    → 0 < next → IsUnseen d.settings d.tape next why
    → WritesOn d first s before most old later (record { count = all; ended = end.Unreached next why })
GoesOn-unseen d first tape s before most old new later count n all next why h w is fewer at some unseen = record {
  found = h.found ++ w.found;
  lists = h.on w.found (end.Unreached next why)
      (subst (λ k. Lists d.settings d.tape s tape (most - count) w.found (end.Unreached k why)) (sym at)
      (unreached tape (most - count) w.last w.found why w.newest (omega (arith, fewer, w.long)) (w.none fewer)
      (omega (arith, at, some)) (subst (λ k. IsUnseen d.settings d.tape k why) at unseen)));
  long = omega (arith, is, h.long, w.long, length-append h.found w.found);
  written = written_both d old new later h.found w.found h.written w.written;
}

-- it goes on over a second tape
pub GoesOn-deeper : (d : Debugger) (first tape deep : Tape) (s : Sort) (before most : ℕ)
    (old new later : Option (List ℕ)) (count n all : ℕ) → GoesOn d first tape s before most old new count
    → WritesHeld d tape s (most - count) new later n → all ≡ count + n → n < most - count → 0 < next_unseen tape 0
    → IsAgain d.settings d.tape deep → IsSeen (next_unseen tape 0) deep
    → GoesOn d first deep s before most old later all
GoesOn-deeper d first tape deep s before most old new later count n all h w is fewer some again seen = record {
  found = h.found ++ w.found;
  long = omega (arith, is, h.long, w.long, length-append h.found w.found);
  written = written_both d old new later h.found w.found h.written w.written;
  on = λ more e lists.
      let left : most - all ≡ most - count - length w.found = omega (arith, is, fewer, w.long) in
      subst (λ l. Lists d.settings d.tape s first (most - before) l e) (sym (append_assoc h.found w.found more))
      (h.on (w.found ++ more) e
      (deeper tape deep (most - count) w.last w.found more e w.newest (omega (arith, fewer, w.long)) (w.none fewer)
      some again seen (subst (λ k. Lists d.settings d.tape s deep k more e) left lists)));
}
