-- Changes that are told one after another, each older than the one before it.
use Rattle.std.proofs.Common.{◌≡◌, ◌∙◌, ℕ, ◌+◌, ◌<◌, ◌≤◌, ◌^◌, List, [], ◌∷◌, ◌++◌, length, append-nil}
use Rattle.std.proofs.Common.{Option, Result, Ok, Err, refl, sym, ap, arith, subst, inl, inr}
use Rattle.std.specs.Prelude.{OnOk, max}
use Rattle.std.specs.List.{flat_map}
use Rattle.std.specs.Io.KnownBytes.{Appends}
use Rattle.std.proofs.lemmas.Bool.{cases_lt}
use Rattle.std.proofs.lemmas.List.{length_push}
use Rattle.std.proofs.lemmas.List.Concat.{flat_map-append}
use Rattle.em_tape.specs.Tape.{Tape, event_at, event_of}
use Rattle.em_text.specs.Writer.{Writes}
use Rattle.em_text.proofs.WritingLemmas.{Appends-more, Appends-same}
use Rattle.em_watch.specs.declared.watch.Watch.{Watch}
use Rattle.em_debugger.specs.declared.debugger.Debugger.{Debugger}
use Rattle.em_debugger.specs.declared.deeper.Unseen.{Unseen}
use Rattle.em_debugger.specs.declared.search.Found.{Found}
use Rattle.em_debugger.specs.declared.search.Sought.TheVariants as sought
use Rattle.em_debugger.specs.Marks.{marks_of}
use Rattle.em_debugger.specs.Who.{AreNext, EndsSo, SeeksHere, TellsAll, before, end_text, found_text}
use Rattle.em_debugger.proofs.NumberLaws.{event_at-falls}

-- how many steps back the next change is sought
abbrev pub then_back : Tape → Found → ℕ → ℕ
then_back tape found back = max (before found.event tape) (back + 1)

AreNext-more : (d : Debugger) (watch : Watch) (n : ℕ) (found : List Found) (last : ℕ) (f : Found)
    → AreNext d watch n found last → SeeksHere d watch last (sought.Found f)
    → AreNext d watch n (found ++ f ∷ []) (then_back d.tape f last)
AreNext-more d watch n [] last f is h =
    (subst (λ m. SeeksHere d watch m (sought.Found f)) is h, ap (λ m. then_back d.tape f m) is)
AreNext-more d watch n (g ∷ found) last f all h =
    (all.0, AreNext-more d watch (then_back d.tape g n) found last f all.1 h)

-- further back a smaller number is left
pub left_falls : (tape : Tape) (i j : ℕ) → i < j → 0 < event_at i tape → event_at j tape < event_at i tape
left_falls tape i j lt some = elim (cases_lt 0 (event_at j tape)) [
  | inl more ↦ let falls = event_at-falls tape i j (omega arith) more in omega (arith, falls)
  | inr none ↦ omega arith
]

-- so many changes were told, and the next is sought so many steps back, where this event is the newest
pub record ToldSo (d : Debugger) (watch : Watch) (old new : Option (List ℕ)) (event back count : ℕ) : Type 0 where
  pub found : List Found
  pub next : AreNext d watch 0 found back
  pub left : event ≡ event_at back d.tape
  pub long : count ≡ length found
  pub few : count + event ≤ event_of d.tape
  pub deep : 0 < event → back + event ≤ event_of d.tape
  pub room : event_of d.tape < 2 ^ 64
  pub written : Appends old new (flat_map (found_text (marks_of d) d.tape watch) found)

pub ToldSo-none : (d : Debugger) (watch : Watch) (old : Option (List ℕ)) (event : ℕ) → event ≡ event_of d.tape
    → event < 2 ^ 64 → ToldSo d watch old old event 0 0
ToldSo-none d watch old event is room = record {
  found = [];
  next = refl;
  left = is;
  long = refl;
  few = omega (arith, is);
  deep = λ some. omega (arith, is);
  room = omega (arith, is, room);
  written = Appends-same old;
}

-- one more
pub ToldSo-more : (d : Debugger) (watch : Watch) (old new later : Option (List ℕ))
    (event back count next_event next_back next_count : ℕ) (f : Found) → ToldSo d watch old new event back count
    → 0 < event → SeeksHere d watch back (sought.Found f) → Appends new later (found_text (marks_of d) d.tape watch f)
    → next_back ≡ then_back d.tape f back → next_event ≡ event_at next_back d.tape → next_count ≡ count + 1
    → ToldSo d watch old later next_event next_back next_count
ToldSo-more d watch old new later event back count next_event next_back next_count f h some seeks written is left more =
    let further : back < next_back = omega (arith, is) in
    let falls = left_falls d.tape back next_back further (omega (arith, h.left, some)) in
    record {
      found = h.found ++ f ∷ [];
      next = subst (λ m. AreNext d watch 0 (h.found ++ f ∷ []) m) (sym is)
          (AreNext-more d watch 0 h.found back f h.next seeks);
      left = left;
      long = more ∙ ap (λ n. n + 1) h.long ∙ sym (length_push h.found f);
      few = omega (arith, h.few, h.left, falls, left, more);
      deep = λ some_left.
          let deeper = event_at-falls d.tape 0 next_back (omega arith) (omega (arith, left, some_left)) in
          let e : next_back + next_event ≤ event_at 0 d.tape = omega (arith, deeper, left) in e;
      room = h.room;
      written = Appends-more old new later (flat_map (found_text (marks_of d) d.tape watch) h.found) (found_text (marks_of d) d.tape watch f) _
          h.written written
          (flat_map-append (found_text (marks_of d) d.tape watch) h.found (f ∷ [])
          ∙ ap (λ l. flat_map (found_text (marks_of d) d.tape watch) h.found ++ l) (append-nil (found_text (marks_of d) d.tape watch f)));
    }

-- and then it is told how they end
pub TellsAll-end : {T E : Type 0} (d : Debugger) (watch : Watch) (old new later : Option (List ℕ)) (result : Result T E)
    (event back count : ℕ) (ended : Option Unseen) → ToldSo d watch old new event back count → EndsSo d watch back ended
    → Writes new later result (end_text d.tape watch count back ended)
    → OnOk result ((text : List ℕ) × Appends old later text × TellsAll d watch text)
TellsAll-end d watch old new later (Ok x) event back count ended h ends written =
    let told = flat_map (found_text (marks_of d) d.tape watch) h.found in
    let end = end_text d.tape watch count back ended in (
      told ++ end,
      Appends-more old new later told end _ h.written written refl,
      record {
        found = h.found;
        last = back;
        next = h.next;
        ended = ended;
        end = ends;
        said = ap (λ n. told ++ end_text d.tape watch n back ended) h.long;
      },
    )
TellsAll-end d watch old new later (Err x) event back count ended h ends written = tt
