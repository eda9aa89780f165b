-- Where the same event is the newest that stands, the same state is shown.
use Rattle.std.proofs.Common.{◌≡◌, ℕ, ◌+◌, ◌-◌, ◌<◌, ◌≤◌, ◌⊎◌, zero, suc, List, [], ◌∷◌, ◌++◌, length, map, take, drop, Some, None}
use Rattle.std.proofs.Common.{Option, inl, inr, refl, sym, ap, ◌∙◌, subst, arith}
use Rattle.std.specs.Prelude.{All, get_or, slice_get}
use Rattle.std.proofs.lemmas.List.{drop_at, length-append, length-take, length-take-le, take-map, take-take, take_all, take_at}
use Rattle.em_step.specs.State.{State}
use Rattle.em_step.specs.Cost.{cost}
use Rattle.em_journal.specs.History.{Call, Run, performs, refuses, goes_back, is_empty}
use Rattle.em_journal.specs.View.{View, after_backs, reach, states}
use Rattle.em_journal.proofs.BackLaws.{past_left}
use Rattle.em_line.specs.Command as form
use Rattle.em_line.specs.Grammar.{parsed_line}
use Rattle.em_line.specs.ParsedLine.{ParsedLine, silent, bad, says, asks, plans}
use Rattle.em_script.specs.Did.{all_did, did_of, played_did}
use Rattle.em_script.specs.PlayedLine.{AreAllowed, PlayedLine, after_all, after_played, with_memory}
use Rattle.em_script.specs.RefusedAt.{RefusedAt}
use Rattle.em_script.specs.Reply as script
use Rattle.em_script.specs.Session.{Session}
use Rattle.em_script.proofs.DidLemmas.{line_did}
use Rattle.em_named.specs.Lines.{IsDid, backs, performed}
use Rattle.em_named.specs.Names.{IsBefore, after_line, name, named, names, names_from}
use Rattle.em_named.specs.Numbers.{name_of, number_in, performed_by}
use Rattle.em_named.specs.declared.did.Did.{Did}
use Rattle.em_named.specs.declared.did.Did.TheVariants.{Performed, TookBack}
use Rattle.em_named.specs.declared.did.Name.{Name}
use Rattle.em_named.proofs.NameLaws.{get-drop, get-named, get-past, once, within}
use Rattle.em_named.proofs.NumberLaws.{fit, found}
use Rattle.em_tape.specs.Kind.{LeavesDriver, SaysBack}
use Rattle.em_tape.specs.Moves.{IsCut}
use Rattle.em_tape.specs.OneState.{BeginAlike, IsKnownPlace, IsNewest, SameDriver}
use Rattle.em_tape.specs.Tape.{HadMemory, HoldsTape, Tape, event_of, standing}
use Rattle.em_tape.proofs.LedLaws.{states-back, states-one}
use Rattle.em_tape.proofs.PlaceLaws.{all_with_memory}

less_or_not : (i n : ℕ) → (i < n) ⊎ (n ≤ i)
less_or_not zero zero = inr (omega arith)
less_or_not zero (suc n) = inl (omega arith)
less_or_not (suc i) zero = inr (omega arith)
less_or_not (suc i) (suc n) = elim (less_or_not i n) [ inl lt ↦ inl (omega arith) | inr le ↦ inr (omega arith) ]

same_some : {X : Type 0} (x y : X) → Some x ≡ Some y → x ≡ y
same_some x y e = cc

get-taken : {X : Type 0} (n : ℕ) (xs : List X) (k : ℕ) (x : X) → slice_get (take n xs) k ≡ Some x
    → slice_get xs k ≡ Some x
get-taken zero xs k x is = cc
get-taken (suc n) [] k x is = is
get-taken (suc n) (y ∷ xs) zero x is = is
get-taken (suc n) (y ∷ xs) (suc k) x is = get-taken n xs k x is

-- ---- the states behind calls are, further back, those before them

behind_performed : (calls : List Call) (v w : View) (k : ℕ) (s : State) → Run v calls w → backs calls ≡ 0
    → length (performed calls) ≤ k → slice_get (states w) k ≡ Some s
    → slice_get (states v) (k - length (performed calls)) ≡ Some s
behind_performed [] v w k s run none le is =
    let e : k ≡ k - 0 = omega arith in
    subst (λ n. slice_get (states v) n ≡ Some s) e (subst (λ x. slice_get (states x) k ≡ Some s) run is)
behind_performed (performs e answer ∷ calls) v w k s run none le is =
    let m = run.0 in
    let there : slice_get (states m) (k - length (performed calls)) ≡ Some s =
    behind_performed calls m w k s run.2 none (omega (arith, le)) is in
    let next : k - length (performed calls) ≡ suc (k - suc (length (performed calls))) = omega arith in
    let older : slice_get m.past (k - suc (length (performed calls))) ≡ Some s =
    subst (λ n. slice_get (states m) n ≡ Some s) next there in
    let held : m.past ≡ take (reach v.budget (cost v.present e ∷ v.costs)) (states v) =
    ap (λ (x : View). x.past) run.1.1 in
    get-taken (reach v.budget (cost v.present e ∷ v.costs)) (states v) (k - suc (length (performed calls))) s
    (subst (λ l. slice_get l (k - suc (length (performed calls))) ≡ Some s) held older)
behind_performed (refuses e refusal ∷ calls) v w k s run none le is =
    subst (λ x. slice_get (states x) (k - length (performed calls)) ≡ Some s) run.1.1
    (behind_performed calls run.0 w k s run.2 none le is)
behind_performed (goes_back ∷ calls) v w k s run none le is = absurd (omega (arith, none))
behind_performed (is_empty ∷ calls) v w k s run none le is =
    subst (λ x. slice_get (states x) (k - length (performed calls)) ≡ Some s) run.1.1
    (behind_performed calls run.0 w k s run.2 none le is)

behind_backs : (calls : List Call) (v w : View) (k : ℕ) (s : State) → Run v calls w → performed calls ≡ []
    → slice_get (states w) k ≡ Some s → slice_get (states v) (backs calls + k) ≡ Some s
behind_backs [] v w k s run none is =
    let e : k ≡ 0 + k = omega arith in
    subst (λ n. slice_get (states v) n ≡ Some s) e (subst (λ x. slice_get (states x) k ≡ Some s) run is)
behind_backs (performs e answer ∷ calls) v w k s run none is = cc
behind_backs (refuses e refusal ∷ calls) v w k s run none is =
    subst (λ x. slice_get (states x) (backs calls + k) ≡ Some s) run.1.1 (behind_backs calls run.0 w k s run.2 none is)
behind_backs (goes_back ∷ calls) v w k s run none is =
    let m = run.0 in
    let there : slice_get (states m) (backs calls + k) ≡ Some s = behind_backs calls m w k s run.2 none is in
    let before : states m ≡ v.past = ap states run.1.1 ∙ states-one v.past v refl run.1.0 in
    let older : slice_get v.past (backs calls + k) ≡ Some s =
    subst (λ l. slice_get l (backs calls + k) ≡ Some s) before there in
    let e : suc (backs calls + k) ≡ suc (backs calls) + k = omega arith in
    subst (λ n. slice_get (states v) n ≡ Some s) e older
behind_backs (is_empty ∷ calls) v w k s run none is =
    subst (λ x. slice_get (states x) (backs calls + k) ≡ Some s) run.1.1 (behind_backs calls run.0 w k s run.2 none is)

-- ---- an event that stands, with the state behind it

record StandsSo (all : List Name) (shown : List State) (one : Name) (s : State) : Type 0 where
  at : ℕ
  stands : slice_get all at ≡ Some one
  shows : slice_get shown at ≡ Some s

of_line : (line access : ℕ) (one : Name) → Some (name line access) ≡ Some one → line ≡ one.line
of_line line access one is =
    let same : name line access ≡ one = cc in
    ap (λ (x : Name). x.line) same

-- a line performed none, or is a later one than that of an event
abbrev IsNotOf : ℕ → Did → Name → Type 0
IsNotOf line d one = (performed_by d ≡ 0) ⊎ (one.line < line)

none_new : (line n at : ℕ) (all : List Name) (one : Name) → at < n → slice_get (named line n ++ all) at ≡ Some one
    → IsNotOf line (Performed n) one → ⊥
none_new line n at all one lt stands (inl none) = omega (arith, none)
none_new line n at all one lt stands (inr less) =
    let line_is = of_line line (n - at) one (sym (get-named line n at all lt) ∙ stands) in
    omega (arith, line_is)

-- it stood so before such a line
before_line : (line : ℕ) (d : Did) (calls : List Call) (v w : View) (all : List Name) (one : Name) (s : State)
    → Run v calls w → IsDid calls d → IsNotOf line d one → StandsSo (after_line line d all) (states w) one s
    → StandsSo all (states v) one s
before_line line (Performed n) calls v w all one s run is not it =
    elim (less_or_not it.at n) [
      | inl lt ↦ absurd (none_new line n it.at all one lt it.stands not)
      | inr le ↦ record {
        at = it.at - n;
        stands = sym (get-past line n it.at all le) ∙ it.stands;
        shows = subst (λ p. slice_get (states v) (it.at - p) ≡ Some s) is.0
            (behind_performed calls v w it.at s run is.1 (omega (arith, is.0)) it.shows);
      }
    ]
before_line line (TookBack n) calls v w all one s run is not it = record {
  at = n + it.at;
  stands = sym (get-drop n it.at all) ∙ it.stands;
  shows = subst (λ b. slice_get (states v) (b + it.at) ≡ Some s) is.1
      (behind_backs calls v w it.at s run is.0 it.shows);
}

-- and before all lines from one on
before_lines : (line : ℕ) (all : List PlayedLine) (from : Session) (older : List Name) (one : Name) (s : State)
    → AreAllowed all from → one.line < line
    → StandsSo (names_from line (all_did all from) older) (states (after_all all from).machine) one s
    → StandsSo older (states from.machine) one s
before_lines line [] from older one s allowed less it = it
before_lines line (x ∷ xs) from older one s allowed less it =
    let after = after_played x from in
    let did = line_did x.refused (parsed_line x.line) from allowed.0 in
    before_line line (played_did x from) did.calls from.machine after.machine older one s did.run did.is (inr less)
    (before_lines (suc line) xs after (after_line line (played_did x from) older) one s allowed.1 (omega arith) it)

-- so it stands behind the first n lines, if one of them performed it
behind_first : (n line : ℕ) (all : List PlayedLine) (from : Session) (older : List Name) (one : Name) (s : State)
    → AreAllowed all from → one.line < line + n
    → StandsSo (names_from line (all_did all from) older) (states (after_all all from).machine) one s
    → StandsSo (names_from line (all_did (take n all) from) older) (states (after_all (take n all) from).machine) one s
behind_first zero line all from older one s allowed less it =
    before_lines line all from older one s allowed (omega arith) it
behind_first (suc n) line [] from older one s allowed less it = it
behind_first (suc n) line (x ∷ xs) from older one s allowed less it =
    behind_first n (suc line) xs (after_played x from) (after_line line (played_did x from) older) one s allowed.1
    (omega arith) it

-- ---- lines that take events back

performs_none : (memory : Option RefusedAt) (parsed : ParsedLine) (session : Session) → SaysBack parsed
    → performed_by (did_of memory parsed session) ≡ 0
performs_none memory silent session said = absurd said
performs_none memory bad session said = refl
performs_none memory (says (form.event e)) session said = absurd said
performs_none memory (says (form.peek addr n)) session said = absurd said
performs_none memory (says (form.look what)) session said = absurd said
performs_none memory (says form.back) session said = refl
performs_none memory (says (form.back_by most)) session said = refl
performs_none memory (asks request) session said = absurd said
performs_none memory (plans plan) session said = absurd said

back_leaves : (parsed : ParsedLine) → SaysBack parsed → LeavesDriver parsed
back_leaves silent said = absurd said
back_leaves bad said = tt
back_leaves (says command) said = tt
back_leaves (asks request) said = absurd said
back_leaves (plans plan) said = absurd said

abbrev lines_of : List PlayedLine → List (List ℕ)
lines_of all = map (λ (played : PlayedLine). played.line) all

-- of each of these lines
abbrev AllSay : (ParsedLine → Type 0) → List (List ℕ) → Type 0
AllSay Says lines = All (λ line. Says (parsed_line line)) lines

first_says : (Says : ParsedLine → Type 0) (line : List ℕ) (lines : List (List ℕ)) → AllSay Says (line ∷ lines)
    → Says (parsed_line line)
first_says Says line lines all = all 0 line (omega arith)

others_say : (Says : ParsedLine → Type 0) (line : List ℕ) (lines : List (List ℕ)) → AllSay Says (line ∷ lines)
    → AllSay Says lines
others_say Says line lines all = λ k default lt. all (suc k) default (omega arith)

backs_leave : (lines : List (List ℕ)) → AllSay SaysBack lines → AllSay LeavesDriver lines
backs_leave lines say = λ k default lt. back_leaves (parsed_line (get_or lines k default)) (say k default lt)

-- whatever stands behind them stood before them
before_backs : (line : ℕ) (all : List PlayedLine) (from : Session) (older : List Name) (one : Name) (s : State)
    → AreAllowed all from → AllSay SaysBack (lines_of all)
    → StandsSo (names_from line (all_did all from) older) (states (after_all all from).machine) one s
    → StandsSo older (states from.machine) one s
before_backs line [] from older one s allowed say it = it
before_backs line (x ∷ xs) from older one s allowed say it =
    let after = after_played x from in
    let did = line_did x.refused (parsed_line x.line) from allowed.0 in
    let none = performs_none x.refused (parsed_line x.line) from (first_says SaysBack x.line (lines_of xs) say) in
    before_line line (played_did x from) did.calls from.machine after.machine older one s did.run did.is (inl none)
    (before_backs (suc line) xs after (after_line line (played_did x from) older) one s allowed.1
    (others_say SaysBack x.line (lines_of xs) say) it)

-- so it stands behind the first n lines, if all others take events back
behind_others : (n line : ℕ) (all : List PlayedLine) (from : Session) (older : List Name) (one : Name) (s : State)
    → AreAllowed all from → AllSay SaysBack (drop n (lines_of all))
    → StandsSo (names_from line (all_did all from) older) (states (after_all all from).machine) one s
    → StandsSo (names_from line (all_did (take n all) from) older) (states (after_all (take n all) from).machine) one s
behind_others zero line all from older one s allowed say it = before_backs line all from older one s allowed say it
behind_others (suc n) line [] from older one s allowed say it = it
behind_others (suc n) line (x ∷ xs) from older one s allowed say it =
    behind_others n (suc line) xs (after_played x from) (after_line line (played_did x from) older) one s allowed.1 say it

-- ---- a driver and its plan

leaves_driver : (memory : Option RefusedAt) (parsed : ParsedLine) (session : Session) → LeavesDriver parsed
    → SameDriver session (script.after_line memory parsed session)
leaves_driver memory silent session leaves = record { started = refl; plan = refl; events = refl }
leaves_driver memory bad session leaves = record { started = refl; plan = refl; events = refl }
leaves_driver memory (says command) session leaves = record { started = refl; plan = refl; events = refl }
leaves_driver memory (asks request) session leaves = absurd leaves
leaves_driver memory (plans plan) session leaves = absurd leaves

then_same : (s t u : Session) → SameDriver s t → SameDriver t u → SameDriver s u
then_same s t u one two =
    record { started = two.started ∙ one.started; plan = two.plan ∙ one.plan; events = two.events ∙ one.events }

all_leave : (all : List PlayedLine) (from : Session) → AllSay LeavesDriver (lines_of all)
    → SameDriver from (after_all all from)
all_leave [] from say = record { started = refl; plan = refl; events = refl }
all_leave (x ∷ xs) from say =
    let after = after_played x from in
    then_same from after (after_all xs after)
    (leaves_driver x.refused (parsed_line x.line) from (first_says LeavesDriver x.line (lines_of xs) say))
    (all_leave xs after (others_say LeavesDriver x.line (lines_of xs) say))

-- the driver is as the first n lines left it, if all others leave it
others_leave : (n : ℕ) (all : List PlayedLine) (from : Session) → AllSay LeavesDriver (drop n (lines_of all))
    → SameDriver (after_all (take n all) from) (after_all all from)
others_leave zero all from say = all_leave all from say
others_leave (suc n) [] from say = record { started = refl; plan = refl; events = refl }
others_leave (suc n) (x ∷ xs) from say = others_leave n xs (after_played x from) say

-- ---- of a tape

newest_there : (tape : Tape) (one : Name) (known : IsKnownPlace tape) → IsNewest tape one
    → StandsSo (names (all_did known.holds.place.all tape.first))
    (states (after_all known.holds.place.all tape.first).machine) one tape.session.machine.present
newest_there tape one known at =
    let place = known.holds.place in
    let taken = tape.back in
    let did = take tape.whole tape.did in
    let v = (after_all place.all tape.first).machine in
    let here : tape.session.machine ≡ after_backs taken v = ap (λ x. x.machine) place.session in
    let left = past_left taken v (after_backs taken v) refl in
    let deep : taken ≤ length v.past =
    omega (arith, left, known.reaches, ap (λ (w : View). length w.past) here) in
    let stands : slice_get (names did) (taken + 0) ≡ Some one = sym (get-drop taken 0 (names did)) ∙ at in
    let noted : did ≡ all_did place.all tape.first = known.holds.noted known.answered in
    record {
      at = taken + 0;
      stands = subst (λ ds. slice_get (names ds) (taken + 0) ≡ Some one) noted stands;
      shows = sym (states-back taken 0 v deep) ∙ ap (λ (w : View). slice_get (states w) 0) (sym here);
    }

newest_shown : (tape : Tape) (n : ℕ) (one : Name) (known : IsKnownPlace tape) → one.line ≤ n → IsNewest tape one
    → StandsSo (names (all_did (take n known.holds.place.all) tape.first))
    (states (after_all (take n known.holds.place.all) tape.first).machine) one tape.session.machine.present
newest_shown tape n one known le at =
    behind_first n 1 known.holds.place.all tape.first [] one tape.session.machine.present
    known.holds.place.played.allowed (omega arith) (newest_there tape one known at)

abbrev played_so : List ℕ → PlayedLine
played_so line = record { line = line; refused = None }

-- the first lines, as they were played
first_played : (tape : Tape) (n : ℕ) (holds : HoldsTape tape) → HadMemory holds.place.all → n ≤ tape.whole
    → take n holds.place.all ≡ with_memory (take n tape.lines)
first_played tape n holds had le =
    let place = holds.place in
    ap (take n) (all_with_memory place.all had ∙ ap with_memory place.played.each)
    ∙ take-map played_so n (take tape.whole tape.lines) ∙ ap with_memory (take-take n tape.whole tape.lines le)

not_before : (one : Name) → IsBefore one one → ⊥
not_before one (inl less) = omega arith
not_before one (inr less) = omega (arith, less.1)

same_place : (i j : ℕ) → (i < j → ⊥) → (j < i → ⊥) → i ≡ j
same_place i j not_less not_more =
    elim (less_or_not i j) [
      | inl less ↦ absurd (not_less less)
      | inr le ↦ elim (less_or_not j i) [ inl more ↦ absurd (not_more more) | inr ge ↦ omega arith ]
    ]

one_state : (did : List Did) (shown : List State) (one : Name) (s t : State) → StandsSo (names did) shown one s
    → StandsSo (names did) shown one t → s ≡ t
one_state did shown one s t a b =
    let at : a.at ≡ b.at = same_place a.at b.at (λ less. not_before one (once did a.at b.at one one less a.stands b.stands))
    (λ more. not_before one (once did b.at a.at one one more b.stands a.stands)) in
    same_some s t (sym a.shows ∙ ap (slice_get shown) at ∙ b.shows)

-- whichever lines follow
pub same_event : (one other : Tape) (n : ℕ) (event : Name) → IsKnownPlace one → IsKnownPlace other
    → BeginAlike n one other → event.line ≤ n → IsNewest one event → IsNewest other event
    → one.session.machine.present ≡ other.session.machine.present
same_event one other n event known known' alike le here there =
    let xs = with_memory (take n one.lines) in
    let s = one.session.machine.present in
    let t = other.session.machine.present in
    let played : take n known.holds.place.all ≡ xs = first_played one n known.holds known.had alike.here in
    let played' : take n known'.holds.place.all ≡ xs =
    first_played other n known'.holds known'.had alike.there ∙ ap with_memory (sym alike.lines) in
    let a = subst (λ all. StandsSo (names (all_did all one.first)) (states (after_all all one.first).machine) event s) played
    (newest_shown one n event known le here) in
    let b = subst (λ all. StandsSo (names (all_did all other.first)) (states (after_all all other.first).machine) event t)
    played' (newest_shown other n event known' le there) in
    let c = subst (λ first. StandsSo (names (all_did xs first)) (states (after_all xs first).machine) event t)
    (sym alike.first) b in
    one_state (all_did xs one.first) (states (after_all xs one.first).machine) event s t a c

-- ---- by its number

record Numbered (tape : Tape) (event : ℕ) : Type 0 where
  one : Name
  newest : IsNewest tape one
  last : one.line ≤ tape.whole
  is_named : name_of event tape.did ≡ Some one

numbered : (tape : Tape) (event : ℕ) → HoldsTape tape → 0 < event → event_of tape ≡ event → Numbered tape event
numbered tape event holds some is = by_first (slice_get (standing tape) 0) refl is where
  by_first : (o : Option Name) → slice_get (standing tape) 0 ≡ o → number_in tape.did o ≡ event → Numbered tape event
  by_first None at number = absurd (omega arith)
  by_first (Some one) at number =
      let fits = fit tape.whole tape.back tape.did holds.known 0 one at in
      record {
        one = one;
        newest = at;
        last = fits.last;
        is_named = ap (λ n. name_of n tape.did) (sym number) ∙ found tape.whole tape.did one holds.known fits;
      }

pub same_number : (one other : Tape) (event : ℕ) → IsKnownPlace one → IsKnownPlace other → one.first ≡ other.first
    → one.lines ≡ other.lines → one.did ≡ other.did → 0 < event → event_of one ≡ event → event_of other ≡ event
    → one.session.machine.present ≡ other.session.machine.present
same_number one other event known known' first lines did some here there =
    let a = numbered one event known.holds some here in
    let b = numbered other event known'.holds some there in
    let same : a.one ≡ b.one =
    same_some a.one b.one (sym a.is_named ∙ ap (name_of event) did ∙ b.is_named) in
    let lines_same : b.one.line ≡ a.one.line = ap (λ (x : Name). x.line) (sym same) in
    same_event one other a.one.line a.one known known' (record {
      first = first;
      lines = ap (take a.one.line) lines;
      here = a.last;
      there = omega (arith, b.last, lines_same);
    }) (omega arith) a.newest (subst (IsNewest other) (sym same) b.newest)

-- ---- behind a cut

-- the lines that stay are the same, and behind them come lines that take events back
cut_alike : (old new : Tape) (gone : ℕ) → HoldsTape old → (cut : IsCut old new gone) → BeginAlike cut.line old new
cut_alike old new gone holds cut =
    let short : cut.line ≤ length old.lines = omega (arith, cut.within, holds.known, holds.performed) in
    let long : length (take cut.line old.lines) ≡ cut.line = length-take-le cut.line old.lines short in
    let longer = length-append (take cut.line old.lines) cut.more in
    record {
      first = sym cut.first;
      lines = sym (ap (take cut.line) cut.lines ∙ take_at (take cut.line old.lines) cut.more cut.line long);
      here = cut.within;
      there = omega (arith, cut.last, ap length cut.lines, longer, long);
    }

others_back : (old new : Tape) (gone : ℕ) → HoldsTape old → (there : HoldsTape new) → (cut : IsCut old new gone)
    → AllSay SaysBack (drop cut.line (lines_of there.place.all))
others_back old new gone holds there cut =
    let short : cut.line ≤ length old.lines = omega (arith, cut.within, holds.known, holds.performed) in
    let long : length (take cut.line old.lines) ≡ cut.line = length-take-le cut.line old.lines short in
    let whole : take new.whole new.lines ≡ new.lines = take_all new.whole new.lines (omega (arith, cut.last)) in
    let are : drop cut.line (lines_of there.place.all) ≡ cut.more =
    ap (drop cut.line) (there.place.played.each ∙ whole ∙ cut.lines)
    ∙ drop_at (take cut.line old.lines) cut.more cut.line long in
    subst (AllSay SaysBack) (sym are) cut.says

all_did-length : (all : List PlayedLine) (from : Session) → length (all_did all from) ≡ length all
all_did-length [] from = refl
all_did-length (x ∷ xs) from = ap suc (all_did-length xs (after_played x from))

-- the newest event is of a line that stays
of_a_line_left : (old new : Tape) (gone : ℕ) (event : Name) (known : IsKnownPlace new) → HoldsTape old
    → (cut : IsCut old new gone) → IsNewest new event → event.line ≤ cut.line
of_a_line_left old new gone event known holds cut at =
    let all = known.holds.place.all in
    let it = behind_others cut.line 1 all new.first [] event new.session.machine.present
    known.holds.place.played.allowed (others_back old new gone holds known.holds cut)
    (newest_there new event known at) in
    let in_them = within (all_did (take cut.line all) new.first) it.at event it.stands in
    omega (arith, in_them.last, all_did-length (take cut.line all) new.first, length-take cut.line all)

-- the same state is shown
pub cut_state : (old new : Tape) (gone : ℕ) (event : Name) → IsCut old new gone → IsKnownPlace old → IsKnownPlace new
    → IsNewest old event → new.session.machine.present ≡ old.session.machine.present
cut_state old new gone event cut known known' at =
    let at' : IsNewest new event = ap (λ (l : List Name). slice_get l 0) cut.stands ∙ at in
    sym (same_event old new cut.line event known known' (cut_alike old new gone known.holds cut)
    (of_a_line_left old new gone event known' known.holds cut at') at at')

-- and the driver and its plan are the same
pub cut_driver : (old new : Tape) (gone : ℕ) → IsCut old new gone → (here : HoldsTape old) → (there : HoldsTape new)
    → HadMemory here.place.all → HadMemory there.place.all → SameDriver old.session new.session
cut_driver old new gone cut here there had had' =
    let alike = cut_alike old new gone here cut in
    let xs = with_memory (take cut.line old.lines) in
    let played : take cut.line here.place.all ≡ xs = first_played old cut.line here had alike.here in
    let played' : take cut.line there.place.all ≡ xs =
    first_played new cut.line there had' alike.there ∙ ap with_memory (sym alike.lines) in
    let leave = subst (λ ls. AllSay LeavesDriver (drop cut.line ls)) (sym here.place.played.each) cut.leave in
    let more = others_back old new gone here there cut in
    let a = subst (λ all. SameDriver (after_all all old.first) (after_all here.place.all old.first)) played
    (others_leave cut.line here.place.all old.first leave) in
    let b = subst (λ all. SameDriver (after_all all new.first) (after_all there.place.all new.first)) played'
    (others_leave cut.line there.place.all new.first
    (backs_leave (drop cut.line (lines_of there.place.all)) more)) in
    let c = subst (λ first. SameDriver (after_all xs first) (after_all there.place.all new.first)) (sym alike.first) b in
    record {
      started = ap (λ (s : Session). s.started) there.place.session ∙ c.started ∙ sym a.started
          ∙ sym (ap (λ (s : Session). s.started) here.place.session);
      plan = ap (λ (s : Session). s.plan) there.place.session ∙ c.plan ∙ sym a.plan
          ∙ sym (ap (λ (s : Session). s.plan) here.place.session);
      events = ap (λ (s : Session). s.events) there.place.session ∙ c.events ∙ sym a.events
          ∙ sym (ap (λ (s : Session). s.events) here.place.session);
    }
