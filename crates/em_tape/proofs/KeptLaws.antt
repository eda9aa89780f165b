-- What holds of a tape after each change of it.
use Rattle.std.proofs.Common.{◌≡◌, ◌⊎◌, ℕ, ◌+◌, ◌*◌, ◌<◌, ◌≤◌, ◌^◌, zero, suc, Bool, true, false, List, [], ◌∷◌, ◌++◌, length, take, drop, Some, None, Option, Result, Ok}
use Rattle.std.proofs.Common.{refl, sym, ap, ◌∙◌, subst, arith, inl, inr}
use Rattle.std.specs.Prelude.{slice_get, min, insert, ◌&&◌, is_ok}
use Rattle.std.proofs.lemmas.List.{take-append-le, take-take, length-append, length-take-le}
use Rattle.std.proofs.lemmas.Bool.{false≢true}
use Rattle.std.proofs.lemmas.List.Edits.{length-insert}
use Rattle.std.proofs.lemmas.List.Elements.{All-append, All-cons, All-drop, All-take, All-push}
use Rattle.em_journal.specs.View.{after_backs}
use Rattle.em_journal.proofs.BackLaws.{past_left}
use Rattle.em_line.specs.Grammar.{parsed_line}
use Rattle.em_text.specs.declared.writer.WriteFailed.{WriteFailed}
use Rattle.em_script.specs.declared.outcome.Outcome.{Outcome}
use Rattle.em_script.specs.declared.outcome.Outcome.TheVariants.{Done}
use Rattle.em_script.specs.Session.{Session}
use Rattle.em_script.specs.Reply.{Performs}
use Rattle.em_named.specs.Numbers.{end_of, performed_by}
use Rattle.em_named.specs.declared.did.Did.{Did}
use Rattle.em_named.specs.declared.did.Did.TheVariants.{TookBack}
use Rattle.em_script.specs.Did.{did_of}
use Rattle.em_tape.specs.Known.{Does, IsKnown}
use Rattle.em_tape.specs.Holds.{Holds}
use Rattle.em_tape.specs.Tape.{Tape, IsShort, taken_back}
use Rattle.em_tape.specs.declared.known.Known.{Known}
use Rattle.em_tape.specs.declared.known.Known.TheVariants.{Other}
use Rattle.em_tape.specs.Moves.{IsPlayed, Plays, noted}
use Rattle.em_tape.proofs.AgainLaws.{known_back, known_cut, known_first, known_lines, known_next, known_noted, noted_of, place_of}
use Rattle.em_tape.proofs.NotedLaws.{counts_noted, counts_take, end_noted, end_whole, noted_within, take_noted}
use Rattle.em_tape.proofs.TapeLaws.{past_back}

-- events are taken back
pub holds_back : {first session new : Session} {lines : List (List ℕ)} {did : List Did} {answered : Bool}
    {marks : List Known} {whole events back : ℕ} (taken most : ℕ)
    → Holds first lines did answered marks whole events back session → taken ≡ min most (length session.machine.past)
    → new ≡ taken_back taken session → Holds first lines did answered marks whole events (back + taken) new
holds_back {session = session} taken most holds count is =
    let tape = holds.tape in
    let known = known_back taken holds.known is in
    let left = past_back taken session in
    record {
      tape = record {
        place = place_of known;
        noted = noted_of known;
        known = tape.known;
        performed = tape.performed;
        short = tape.short;
        few = tape.few;
        counts = tape.counts;
        room = omega (arith, left, count, tape.room, ap (λ (s : Session). length s.machine.past) is);
      };
      end = holds.end;
      known = known;
    }

-- a line is added, or none
pub holds_add : {first session : Session} {lines new : List (List ℕ)} {did : List Did} {answered : Bool}
    {marks : List Known} {whole events back : ℕ} (line : List ℕ)
    → Holds first lines did answered marks whole events back session → IsShort line → length lines < 0x3FFF_FFFF
    → (new ≡ lines ++ line ∷ []) ⊎ (new ≡ lines) → Holds first new did answered marks whole events back session
holds_add {first = first} {session = session} {lines = lines} {did = did} {answered = answered} {marks = marks}
    {whole = whole} {events = events} {back = back} line holds short few (inl more) =
    let tape = holds.tape in
    let long = length-append lines (line ∷ []) in
    let known : IsKnown first (lines ++ line ∷ []) did answered marks whole back session = known_lines holds.known
    (take-append-le (length marks) lines (line ∷ []) holds.known.known) (omega (arith, long, holds.known.known)) in
    subst (λ ls. Holds first ls did answered marks whole events back session) (sym more) (record {
      tape = record {
        place = place_of known;
        noted = noted_of known;
        known = tape.known;
        performed = omega (arith, long, tape.performed);
        short = All-push IsShort lines line tape.short short;
        few = omega (arith, long);
        counts = tape.counts;
        room = tape.room;
      };
      end = holds.end;
      known = known;
    })
holds_add {first = first} {session = session} {did = did} {answered = answered} {marks = marks} {whole = whole}
    {events = events} {back = back} line holds short few (inr same) =
    subst (λ ls. Holds first ls did answered marks whole events back session) (sym same) holds

-- a line is put behind those that stand whole, or none; no line ahead was performed
pub holds_put : {first session : Session} {lines new : List (List ℕ)} {did : List Did} {answered : Bool}
    {marks : List Known} {whole events back : ℕ} (line : List ℕ)
    → Holds first lines did answered marks whole events back session → length did ≤ whole → IsShort line
    → length lines < 0x3FFF_FFFF → (new ≡ insert lines whole line) ⊎ (new ≡ lines)
    → Holds first new did answered (take whole marks) whole events back session
holds_put {first = first} {session = session} {lines = lines} {did = did} {answered = answered} {marks = marks}
    {whole = whole} {events = events} {back = back} line holds last short few (inl more) =
    let tape = holds.tape in
    let within : whole ≤ length lines = omega (arith, tape.known, tape.performed) in
    let some = length-take-le whole marks holds.known.within in
    let long = length-insert lines whole line within in
    let front = length-take-le whole lines within in
    let same : take (length (take whole marks)) (insert lines whole line) ≡ take (length (take whole marks)) lines =
    take-append-le (length (take whole marks)) (take whole lines) (line ∷ drop whole lines) (omega (arith, some, front))
    ∙ take-take (length (take whole marks)) whole lines (omega (arith, some)) in
    let known : IsKnown first (insert lines whole line) did answered (take whole marks) whole back session =
    known_lines (known_cut holds.known) same (omega (arith, some, long, within)) in
    subst (λ ls. Holds first ls did answered (take whole marks) whole events back session) (sym more) (record {
      tape = record {
        place = place_of known;
        noted = noted_of known;
        known = tape.known;
        performed = omega (arith, long, tape.performed);
        short = All-append IsShort (take whole lines) (line ∷ drop whole lines) (All-take IsShort whole lines tape.short)
            (All-cons IsShort line (drop whole lines) short (All-drop IsShort whole lines tape.short));
        few = omega (arith, long);
        counts = tape.counts;
        room = tape.room;
      };
      end = holds.end;
      known = known;
    })
holds_put {first = first} {session = session} {did = did} {answered = answered} {marks = marks} {whole = whole}
    {events = events} {back = back} line holds last short few (inr same) =
    let tape = holds.tape in
    let known = known_cut holds.known in
    subst (λ ls. Holds first ls did answered (take whole marks) whole events back session) (sym same) (record {
      tape = record {
        place = place_of known;
        noted = noted_of known;
        known = tape.known;
        performed = tape.performed;
        short = tape.short;
        few = tape.few;
        counts = tape.counts;
        room = tape.room;
      };
      end = holds.end;
      known = known;
    })

-- the lines ahead are dropped
pub holds_cut : {first session : Session} {lines : List (List ℕ)} {did : List Did} {answered : Bool} {marks : List Known}
    {whole events back : ℕ} → Holds first lines did answered marks whole events back session
    → Holds first (take whole lines) (take whole did) answered (take whole marks) whole events back session
holds_cut {lines = lines} {did = did} {marks = marks} {whole = whole} holds =
    let tape = holds.tape in
    let here = length-take-le whole did tape.known in
    let there = length-take-le whole lines (omega (arith, tape.known, tape.performed)) in
    let some = length-take-le whole marks holds.known.within in
    let same : take (length (take whole marks)) (take whole lines) ≡ take (length (take whole marks)) lines =
    take-take (length (take whole marks)) whole lines (omega (arith, some)) in
    let noted : take (length (take whole marks)) (take whole did) ≡ take (length (take whole marks)) did =
    take-take (length (take whole marks)) whole did (omega (arith, some)) in
    let known = known_noted (known_lines (known_cut holds.known) same (omega (arith, some, there))) noted
    (omega (arith, some, here)) in
    record {
      tape = record {
        place = place_of known;
        noted = noted_of known;
        known = omega (arith, here);
        performed = omega (arith, here, there);
        short = All-take IsShort whole lines tape.short;
        few = omega (arith, there, tape.known, tape.performed, tape.few);
        counts = counts_take whole did tape.counts;
        room = tape.room;
      };
      end = holds.end ∙ sym (end_whole whole did);
      known = known;
    }

-- the next line is performed
pub holds_play : {first session new : Session} {did : List Did} {answered : Bool} {marks : List Known}
    {whole events back number : ℕ} {text text' : Option (List ℕ)} {replied : Result Outcome WriteFailed}
    (lines : List (List ℕ)) (line : List ℕ) (d : Did) (m : Known)
    → Holds first lines did answered marks whole events back session → back ≡ 0 → whole < length lines
    → slice_get lines whole ≡ Some line
    → (performs : Performs number (parsed_line line) session new text text' replied)
    → (answered && is_ok replied ≡ true → (answered ≡ true) × (d ≡ did_of performs.memory (parsed_line line) session))
    → performed_by d ≤ 0x2_0000_0000 → Does m (parsed_line line) session new → length new.machine.past < 2 ^ 64
    → Holds first lines (noted whole d did) (answered && is_ok replied) (take whole marks ++ m ∷ []) (whole + 1)
    (events + performed_by d) back new
holds_play {first = first} {session = session} {new = new} {did = did} {answered = answered} {marks = marks}
    {whole = whole} {events = events} {back = back} {replied = replied} lines line d m holds none ahead is performs told
    few does room =
    let tape = holds.tape in
    let within = noted_within whole d (length lines) did tape.known ahead tape.performed in
    let from = subst (λ b. IsKnown first lines did answered marks whole b session) none holds.known in
    let next : IsKnown first lines (noted whole d did) (answered && is_ok replied) (take whole marks ++ m ∷ []) (whole + 1)
    back new = subst (λ b. IsKnown first lines (noted whole d did) (answered && is_ok replied) (take whole marks ++ m ∷ [])
    (whole + 1) b new) (sym none)
    (known_next m line d (noted whole d did) (answered && is_ok replied) from is (omega arith) performs does
    (take_noted whole d did tape.known) within.0 told) in
    record {
      tape = record {
        place = place_of next;
        noted = noted_of next;
        known = within.0;
        performed = within.1;
        short = tape.short;
        few = tape.few;
        counts = counts_noted whole d did tape.known few tape.counts;
        room = omega (arith, none, room);
      };
      end = ap (λ n. n + performed_by d) holds.end ∙ sym (end_noted whole d did tape.known);
      known = next;
    }

-- where each answer could be written, it is known what the line did
pub told_of : (answered ok : Bool) {d e : Did} → (ok ≡ false) ⊎ (d ≡ e) → answered && ok ≡ true
    → (answered ≡ true) × (d ≡ e)
told_of true true (inl failed) is = absurd (false≢true (sym failed))
told_of true true (inr same) is = (refl, same)
told_of true false either is = absurd (false≢true is)
told_of false ok either is = absurd (false≢true is)

pub and_true : (b : Bool) → b && true ≡ b
and_true true = refl
and_true false = refl

-- the next line is performed, which takes events back
pub holds_taken : {first session new : Session} {did : List Did} {answered : Bool} {marks : List Known}
    {whole events back number : ℕ} (lines : List (List ℕ)) (line : List ℕ) (n : ℕ)
    → Holds first lines did answered marks whole events back session → back ≡ 0 → whole < length lines
    → slice_get lines whole ≡ Some line
    → IsPlayed number line session new None None (record { replied = Ok Done; did = TookBack n; known = Other })
    → new ≡ record session { machine = after_backs n session.machine }
    → Holds first lines (noted whole (TookBack n) did) answered (take whole marks ++ Other ∷ []) (whole + 1) events back new
holds_taken {first = first} {session = session} {new = new} {did = did} {answered = answered} {marks = marks}
    {whole = whole} {events = events} {back = back} lines line n holds none ahead is played back_is =
    let d = TookBack n in
    let left = past_left n session.machine (after_backs n session.machine) refl in
    let room : length new.machine.past < 2 ^ 64 =
    omega (arith, left, holds.tape.room, ap (λ (s : Session). length s.machine.past) back_is) in
    let now = take whole marks ++ Other ∷ [] in
    let plays = holds_play lines line d Other holds none ahead is played.performs
    (told_of answered true played.did) played.few played.known room in
    let same : events + performed_by d ≡ events = omega arith in
    subst (λ b. Holds first lines (noted whole d did) b now (whole + 1) events back new) (and_true answered)
    (subst (λ e. Holds first lines (noted whole d did) (answered && true) now (whole + 1) e back new) same plays)

-- what is known of the first lines, of all of them
pub known_more : {first new : Session} {lines some : List (List ℕ)} {did : List Did} {answered : Bool}
    {marks : List Known} {line count : ℕ} → count ≡ line → take line lines ≡ some → line ≤ length lines
    → IsKnown first some did answered marks count 0 new → IsKnown first lines did answered marks line 0 new
known_more {first = first} {new = new} {lines = lines} {some = some} {did = did} {answered = answered} {marks = marks}
    {line = line} {count = count} same is within known =
    let long = length-take-le line lines within in
    let here : IsKnown first some did answered marks line 0 new =
    subst (λ n. IsKnown first some did answered marks n 0 new) same known in
    let front : length marks ≤ line = omega (arith, known.known, ap length is, long) in
    known_lines here (sym (take-take (length marks) line lines front) ∙ ap (take (length marks)) is)
    (omega (arith, front))

-- the place is behind another line
pub holds_at : {first session new : Session} {lines : List (List ℕ)} {did : List Did} {answered : Bool}
    {marks now : List Known} {whole events back end : ℕ} (line : ℕ)
    → Holds first lines did answered marks whole events back session → line ≤ length did → end ≡ end_of line did
    → IsKnown first lines did answered now line 0 new → length new.machine.past < 2 ^ 64
    → Holds first lines did answered now line end 0 new
holds_at line holds within there known room =
    let tape = holds.tape in
    record {
      tape = record {
        place = place_of known;
        noted = noted_of known;
        known = within;
        performed = tape.performed;
        short = tape.short;
        few = tape.few;
        counts = tape.counts;
        room = omega (arith, room);
      };
      end = there;
      known = known;
    }

-- a line that is performed where its lines were made whole before
pub plays_from : {old mid new : Tape} {text text' : Option (List ℕ)} {replied : Result Outcome WriteFailed}
    → mid ≡ record old { back = 0; session = mid.session } → (old.back ≡ 0 → mid ≡ old)
    → Plays mid new text text' replied → Plays old new text text' replied
plays_from {old = old} {mid = mid} {new = new} {text = text} {text' = text'} {replied = replied} is here plays =
    let s = mid.session in
    let from : Plays (record old { back = 0; session = s }) new text text' replied
    = subst (λ m. Plays m new text text' replied) is plays in
    record {
      line = from.line;
      next = from.next;
      before = from.before;
      place = from.place;
      here = λ none. from.here refl ∙ ap (λ (t : Tape). t.session) (here none);
      performs = from.performs;
      did = from.did;
      does = from.does;
      tape = from.tape;
    }

abbrev pub tape_of : Session → List (List ℕ) → List Did → Bool → ℕ → ℕ → Session → Tape
tape_of first lines did answered whole back session = record {
  first = first;
  lines = lines;
  did = did;
  answered = answered;
  whole = whole;
  back = back;
  session = session;
}

pub same_tape : (first session : Session) (lines : List (List ℕ)) (did did' : List Did) (answered answered' : Bool)
    (whole back : ℕ) → did ≡ did' → answered ≡ answered' → back ≡ 0
    → tape_of first lines did answered whole back session ≡ tape_of first lines did' answered' whole 0 session
same_tape first session lines did did' answered answered' whole back e f g = rw (e, f, g) refl

-- where it is known of each line what it did
pub known_told : {first new : Session} {lines : List (List ℕ)} {did : List Did} {marks : List Known} {line : ℕ}
    (answered : Bool) → IsKnown first lines did true marks line 0 new → IsKnown first lines did answered marks line 0 new
known_told answered known = record {
  all = known.all;
  played = known.played;
  does = known.does;
  noted = λ told. known.noted refl;
  within = known.within;
  known = known.known;
  performed = known.performed;
  session = known.session;
}

none_counted : (k : ℕ) → end_of k [] ≤ k * 0x2_0000_0000
none_counted zero = omega arith
none_counted (suc k) = omega arith

-- a tape without a line
pub holds_new : (first session : Session) → session ≡ first → length session.machine.past < 2 ^ 64
    → Holds first [] [] true [] 0 0 0 session
holds_new first session is room =
    let known : IsKnown first [] [] true [] 0 0 session =
    subst (IsKnown first [] [] true [] 0 0) (sym is) (known_first first [] [] true) in
    record {
      tape = record {
        place = place_of known;
        noted = noted_of known;
        known = omega arith;
        performed = omega arith;
        short = λ k default lt. absurd (omega arith);
        few = omega arith;
        counts = none_counted;
        room = omega (arith, room);
      };
      end = refl;
      known = known;
    }
