-- Lines that marks no more than one event each, taken back and performed again.
use Rattle.std.proofs.Common.{◌≡◌, ℕ, ◌+◌, ◌-◌, ◌<◌, ◌≤◌, zero, suc, List, [], ◌∷◌, ◌++◌, length, take, drop, map}
use Rattle.std.proofs.Common.{Bool, true, Option, Some, None, Result, refl, sym, ap, ◌∙◌, subst, arith}
use Rattle.std.specs.Prelude.{slice_get, get_or}
use Rattle.std.specs.Option.{option_map}
use Rattle.std.proofs.lemmas.List.{length-take-le, length-append, length-drop, length-map, take_all, take-take, take-map, drop-map}
use Rattle.std.proofs.lemmas.List.{drop-take, map-append, drop_more}
use Rattle.em_line.specs.Grammar.{parsed_line}
use Rattle.em_line.specs.ParsedLine.{ParsedLine}
use Rattle.em_script.specs.PlayedLine.{PlayedLine, AreAllowed, IsAllowed, after_all, after_played}
use Rattle.em_script.specs.Reply.{Performs}
use Rattle.em_script.specs.Session.{Session}
use Rattle.em_tape.specs.Known.{AllDo, AreDone, Does, IsKnown, events_in}
use Rattle.em_named.specs.declared.did.Did.{Did}
use Rattle.em_script.specs.Did.{all_did, did_of, played_did}
use Rattle.em_tape.specs.Tape.{AreNoted, IsAt, taken_back}
use Rattle.em_tape.specs.declared.known.Known.{Known}
use Rattle.em_tape.specs.declared.known.Known.TheVariants.{Nothing, OneEvent, Other}
use Rattle.em_tape.proofs.TapeLaws.{after_all-append, allowed_push, take-more, taken-plus}
use Rattle.em_text.specs.declared.writer.WriteFailed.{WriteFailed}
use Rattle.em_script.specs.declared.outcome.Outcome.{Outcome}

-- ---- some of the lines

pub AllDo-front : (k : ℕ) (ds : List Known) (xs : List PlayedLine) (s : Session) → AllDo ds xs s → AllDo (take k ds) xs s
AllDo-front zero ds xs s does = tt
AllDo-front (suc k) [] xs s does = tt
AllDo-front (suc k) (d ∷ ds) [] s does = absurd does
AllDo-front (suc k) (d ∷ ds) (x ∷ xs) s does = (does.0, AllDo-front k ds xs (after_played x s) does.1)

pub AllDo-take : (k : ℕ) (ds : List Known) (xs : List PlayedLine) (s : Session) → AllDo ds xs s
    → AllDo (take k ds) (take k xs) s
AllDo-take zero ds xs s does = tt
AllDo-take (suc k) [] xs s does = tt
AllDo-take (suc k) (d ∷ ds) [] s does = absurd does
AllDo-take (suc k) (d ∷ ds) (x ∷ xs) s does = (does.0, AllDo-take k ds xs (after_played x s) does.1)

pub AllDo-drop : (k : ℕ) (ds : List Known) (xs : List PlayedLine) (s : Session) → AllDo ds xs s
    → AllDo (drop k ds) (drop k xs) (after_all (take k xs) s)
AllDo-drop zero ds xs s does = does
AllDo-drop (suc k) [] xs s does = tt
AllDo-drop (suc k) (d ∷ ds) [] s does = absurd does
AllDo-drop (suc k) (d ∷ ds) (x ∷ xs) s does = AllDo-drop k ds xs (after_played x s) does.1

pub AllDo-push : (ds : List Known) (xs : List PlayedLine) (d : Known) (x : PlayedLine) (s : Session)
    → length ds ≡ length xs → AllDo ds xs s
    → Does d (parsed_line x.line) (after_all xs s) (after_played x (after_all xs s))
    → AllDo (ds ++ d ∷ []) (xs ++ x ∷ []) s
AllDo-push [] [] d x s long does marks = (marks, tt)
AllDo-push [] (y ∷ ys) d x s long does marks = absurd (omega arith)
AllDo-push (e ∷ ds) [] d x s long does marks = absurd does
AllDo-push (e ∷ ds) (y ∷ ys) d x s long does marks =
    (does.0, AllDo-push ds ys d x (after_played y s) (omega arith) does.1 marks)

AreAllowed-take : (k : ℕ) (xs : List PlayedLine) (s : Session) → AreAllowed xs s → AreAllowed (take k xs) s
AreAllowed-take zero xs s allowed = tt
AreAllowed-take (suc k) [] s allowed = tt
AreAllowed-take (suc k) (x ∷ xs) s allowed = (allowed.0, AreAllowed-take k xs (after_played x s) allowed.1)

-- the lines up to one, and then some behind it
pub split : (i k : ℕ) (xs : List PlayedLine) (s : Session)
    → after_all (take (i + k) xs) s ≡ after_all (take k (drop i xs)) (after_all (take i xs) s)
split zero k xs s =
    let e : zero + k ≡ k = omega arith in
    ap (λ n. after_all (take n xs) s) e
split (suc i) k [] s = ap (λ l. after_all l s) (take_all (suc i + k) [] (omega arith) ∙ sym (take_all k [] (omega arith)))
split (suc i) k (x ∷ xs) s =
    let e : suc i + k ≡ suc (i + k) = omega arith in
    ap (λ n. after_all (take n (x ∷ xs)) s) e ∙ split i k xs (after_played x s)

pub split_to : (i j : ℕ) (xs : List PlayedLine) (s : Session) → i ≤ j
    → after_all (take j xs) s ≡ after_all (take (j - i) (drop i xs)) (after_all (take i xs) s)
split_to i j xs s le =
    let e : j ≡ i + (j - i) = omega arith in
    ap (λ n. after_all (take n xs) s) e ∙ split i (j - i) xs s

-- ---- taken back

one_more : (n : ℕ) (found : Option ℕ) (t after s : Session) → ((m : ℕ) → found ≡ Some m → taken_back m t ≡ after)
    → taken_back 1 after ≡ s → option_map suc found ≡ Some n → taken_back n t ≡ s
one_more n None t after s rest undone is = absurd (cc)
one_more n (Some m) t after s rest undone is =
    let same : suc m ≡ n = cc in
    let e : n ≡ m + 1 = omega arith in
    ap (λ i. taken_back i t) e ∙ sym (taken-plus m 1 t) ∙ ap (taken_back 1) (rest m refl) ∙ undone

along_one : (d : Known) (n : ℕ) (ds : List Known) (parsed : ParsedLine) (t after s : Session) → Does d parsed s after
    → ((m : ℕ) → events_in ds ≡ Some m → taken_back m t ≡ after) → events_in (d ∷ ds) ≡ Some n → taken_back n t ≡ s
along_one Nothing n ds parsed t after s marks rest is = rest n is ∙ marks
along_one OneEvent n ds parsed t after s marks rest is = one_more n (events_in ds) t after s rest marks.undone is
along_one Other n ds parsed t after s marks rest is = absurd (cc)

-- as many steps back as the lines marks events lead to before the first of them
pub along : (k n : ℕ) (ds : List Known) (xs : List PlayedLine) (s : Session) → AllDo ds xs s → k ≤ length ds
    → events_in (take k ds) ≡ Some n → taken_back n (after_all (take k xs) s) ≡ s
along zero n ds xs s does le is =
    let none : n ≡ 0 = cc in
    ap (λ i. taken_back i s) none
along (suc k) n [] xs s does le is = absurd (omega arith)
along (suc k) n (d ∷ ds) [] s does le is = absurd does
along (suc k) n (d ∷ ds) (x ∷ xs) s does le is =
    let after = after_played x s in
    along_one d n (take k ds) (parsed_line x.line) (after_all (take k xs) after) after s does.0
    (λ m found. along k m ds xs after does.1 (omega arith) found) is

-- ---- how many events

-- so many more
abbrev pub plus : ℕ → Option ℕ → Option ℕ
plus n found = option_map (λ m. n + m) found

pub plus-suc : (n : ℕ) (found : Option ℕ) → plus n (option_map suc found) ≡ plus (n + 1) found
plus-suc n None = refl
plus-suc n (Some m) = let e : n + suc m ≡ n + 1 + m = omega arith in ap Some e

-- the line before some of them
pub events_before : (whole line : ℕ) (ds : List Known) (d : Known) → line < whole → line < length ds
    → events_in (take (whole - line) (drop line ds))
    ≡ events_in (get_or ds line d ∷ take (whole - (line + 1)) (drop (line + 1) ds))
events_before whole line ds d less within =
    let e : whole - line ≡ suc (whole - (line + 1)) = omega arith in
    ap (λ n. events_in (take n (drop line ds))) e
    ∙ ap (λ l. events_in (take (suc (whole - (line + 1))) l)) (drop_more ds line d within)

push_more : (found more : Option ℕ) (a b : ℕ) → ((m : ℕ) → found ≡ Some m → more ≡ Some (m + b))
    → option_map suc found ≡ Some a → option_map suc more ≡ Some (a + b)
push_more None more a b rest is = absurd (cc)
push_more (Some m) more a b rest is =
    let same : suc m ≡ a = cc in
    let e : suc (m + b) ≡ a + b = omega arith in
    ap (option_map suc) (rest m refl) ∙ ap Some e

pub events_push : (ds : List Known) (d : Known) (a b : ℕ) → events_in ds ≡ Some a → events_in (d ∷ []) ≡ Some b
    → events_in (ds ++ d ∷ []) ≡ Some (a + b)
events_push [] d a b is one =
    let none : a ≡ 0 = cc in
    let e : b ≡ a + b = omega arith in
    one ∙ ap Some e
events_push (Nothing ∷ ds) d a b is one = events_push ds d a b is one
events_push (OneEvent ∷ ds) d a b is one =
    push_more (events_in ds) (events_in (ds ++ d ∷ [])) a b (λ m found. events_push ds d m b found one) is
events_push (Other ∷ ds) d a b is one = absurd (cc)

-- one line does no more than one
pub one_at_most : (d : Known) (n : ℕ) → events_in (d ∷ []) ≡ Some n → n ≤ 1
one_at_most Nothing n is = let e : n ≡ 0 = cc in omega arith
one_at_most OneEvent n is = let e : n ≡ 1 = cc in omega arith
one_at_most Other n is = absurd (cc)

-- ---- one of the lines

pub does_at : (k : ℕ) (ds : List Known) (xs : List PlayedLine) (ls : List (List ℕ)) (s : Session) (d : Known)
    (line : List ℕ) → AllDo ds xs s → map (λ (played : PlayedLine). played.line) xs ≡ ls → k < length ds
    → slice_get ls k ≡ Some line
    → Does (get_or ds k d) (parsed_line line) (after_all (take k xs) s) (after_all (take (suc k) xs) s)
does_at k [] xs ls s d line does each lt is = absurd (omega arith)
does_at k (e ∷ ds) [] ls s d line does each lt is = absurd does
does_at k (e ∷ ds) (x ∷ xs) [] s d line does each lt is = absurd (cc)
does_at zero (e ∷ ds) (x ∷ xs) (l ∷ ls) s d line does each lt is =
    let first : x.line ≡ l = cc in
    let same : l ≡ line = cc in
    subst (λ t. Does e (parsed_line t) s (after_played x s)) (first ∙ same) does.0
does_at (suc k) (e ∷ ds) (x ∷ xs) (l ∷ ls) s d line does each lt is =
    does_at k ds xs ls (after_played x s) d line does.1 (ap (drop 1) each) (omega arith) is

-- the same of lines that were done
pub done_at : (k : ℕ) (d : Known) (line : List ℕ) (xs : List PlayedLine) (ds : List Known) (ls : List (List ℕ))
    (s now : Session) → AreDone xs ds ls s → now ≡ after_all (take k xs) s → k < length ds
    → slice_get ls k ≡ Some line
    → Does (get_or ds k d) (parsed_line line) now (after_all (take (k + 1) xs) s)
done_at k d line xs ds ls s now done here lt is =
    let e : suc k ≡ k + 1 = omega arith in
    subst (λ (from : Session). Does (get_or ds k d) (parsed_line line) from (after_all (take (k + 1) xs) s)) (sym here)
    (subst (λ n. Does (get_or ds k d) (parsed_line line) (after_all (take k xs) s) (after_all (take n xs) s)) e
    (does_at k ds xs ls s d line done.does done.each lt is))

-- ---- what is known

-- as many lines were played as are known
known_length : {first now : Session} {lines : List (List ℕ)} {did : List Did} {answered : Bool} {marks : List Known} {whole back : ℕ}
    (known : IsKnown first lines did answered marks whole back now) → length known.all ≡ length marks
known_length {lines = lines} {marks = marks} known =
    let long = length-map known.all (λ (played : PlayedLine). played.line) in
    let front = length-take-le (length marks) lines known.known in
    omega (arith, ap length known.played.each)

pub place_of : {first now : Session} {lines : List (List ℕ)} {did : List Did} {answered : Bool} {marks : List Known} {whole back : ℕ}
    → IsKnown first lines did answered marks whole back now → IsAt first (take whole lines) back now
place_of {first = first} {lines = lines} {marks = marks} {whole = whole} known =
    let xs = known.all in
    record {
      all = take whole xs;
      played = record {
        each = sym (take-map (λ (played : PlayedLine). played.line) whole xs) ∙ ap (take whole) known.played.each
            ∙ take-take whole (length marks) lines known.within;
        allowed = AreAllowed-take whole xs first known.played.allowed;
      };
      session = known.session;
    }

pub known_first : (first : Session) (lines : List (List ℕ)) (did : List Did) (answered : Bool)
    → IsKnown first lines did answered [] 0 0 first
known_first first lines did answered = record {
  all = [];
  played = record { each = refl; allowed = tt };
  does = tt;
  noted = λ _. refl;
  within = omega arith;
  known = omega arith;
  performed = omega arith;
  session = refl;
}

-- more events are taken back
pub known_back : {first now new : Session} {lines : List (List ℕ)} {did : List Did} {answered : Bool} {marks : List Known} {whole back : ℕ} (n : ℕ)
    → IsKnown first lines did answered marks whole back now → new ≡ taken_back n now → IsKnown first lines did answered marks whole (back + n) new
known_back {first = first} {whole = whole} {back = back} n known is = record {
  all = known.all;
  played = known.played;
  does = known.does;
  noted = known.noted;
  within = known.within;
  known = known.known;
  performed = known.performed;
  session = is ∙ ap (taken_back n) known.session ∙ taken-plus back n (after_all (take whole known.all) first);
}

-- lines are put behind the last, or dropped behind the known ones
pub known_lines : {first now : Session} {lines new : List (List ℕ)} {did : List Did} {answered : Bool} {marks : List Known} {whole back : ℕ}
    → IsKnown first lines did answered marks whole back now → take (length marks) new ≡ take (length marks) lines
    → length marks ≤ length new → IsKnown first new did answered marks whole back now
known_lines known same long = record {
  all = known.all;
  played = record { each = known.played.each ∙ sym same; allowed = known.played.allowed };
  does = known.does;
  noted = known.noted;
  within = known.within;
  known = long;
  performed = known.performed;
  session = known.session;
}

all_did-take : (k : ℕ) (xs : List PlayedLine) (s : Session) → all_did (take k xs) s ≡ take k (all_did xs s)
all_did-take zero xs s = refl
all_did-take (suc k) [] s = refl
all_did-take (suc k) (x ∷ xs) s = ap (λ l. played_did x s ∷ l) (all_did-take k xs (after_played x s))

pub all_did-append : (xs : List PlayedLine) (x : PlayedLine) (s : Session)
    → all_did (xs ++ x ∷ []) s ≡ all_did xs s ++ played_did x (after_all xs s) ∷ []
all_did-append [] x s = refl
all_did-append (y ∷ ys) x s = ap (λ l. played_did y s ∷ l) (all_did-append ys x (after_played y s))

-- what is noted of the whole lines
noted_whole : {first now : Session} {lines : List (List ℕ)} {did : List Did} {answered : Bool} {marks : List Known}
    {whole back : ℕ} (known : IsKnown first lines did answered marks whole back now)
    → AreNoted answered (take whole did) (take whole known.all) first
noted_whole {first = first} {did = did} {marks = marks} {whole = whole} known told =
    sym (take-take whole (length marks) did known.within) ∙ ap (take whole) (known.noted told)
    ∙ sym (all_did-take whole known.all first)

pub noted_of : {first now : Session} {lines : List (List ℕ)} {did : List Did} {answered : Bool} {marks : List Known}
    {whole back : ℕ} (known : IsKnown first lines did answered marks whole back now)
    → AreNoted answered (take whole did) (place_of known).all first
unfolding place_of
noted_of known = noted_whole known

-- the same is noted of the known lines
pub known_noted : {first now : Session} {lines : List (List ℕ)} {did did' : List Did} {answered : Bool}
    {marks : List Known} {whole back : ℕ} → IsKnown first lines did answered marks whole back now
    → take (length marks) did' ≡ take (length marks) did → length marks ≤ length did'
    → IsKnown first lines did' answered marks whole back now
known_noted known same long = record {
  all = known.all;
  played = known.played;
  does = known.does;
  noted = λ told. same ∙ known.noted told;
  within = known.within;
  known = known.known;
  performed = long;
  session = known.session;
}

-- no more is known than of the whole lines
pub known_cut : {first now : Session} {lines : List (List ℕ)} {did : List Did} {answered : Bool} {marks : List Known} {whole back : ℕ}
    → IsKnown first lines did answered marks whole back now → IsKnown first lines did answered (take whole marks) whole back now
unfolding place_of
known_cut {first = first} {lines = lines} {did = did} {marks = marks} {whole = whole} {back = back} known =
    let xs = known.all in
    let place = place_of known in
    let long = length-take-le whole marks known.within in
    let within : whole ≤ whole = omega arith in
    record {
      all = take whole xs;
      played = record {
        each = place.played.each ∙ ap (λ n. take n lines) (sym long);
        allowed = place.played.allowed;
      };
      does = AllDo-take whole marks xs first known.does;
      noted = λ told. ap (λ n. take n did) long ∙ noted_whole known told;
      within = omega (arith, long);
      known = omega (arith, long, known.within, known.known);
      performed = omega (arith, long, known.within, known.performed);
      session = known.session
          ∙ ap (λ l. taken_back back (after_all l first)) (sym (take-take whole whole xs within));
    }

-- the line behind the whole ones is played
pub known_next : {first now new : Session} {lines : List (List ℕ)} {did : List Did} {answered : Bool} {marks : List Known}
    {whole number : ℕ} {text text' : Option (List ℕ)} {replied : Result Outcome WriteFailed} (m : Known) (line : List ℕ)
    (d : Did) (did' : List Did) (answered' : Bool) → IsKnown first lines did answered marks whole 0 now
    → slice_get lines whole ≡ Some line → whole + 1 ≤ length lines
    → (performs : Performs number (parsed_line line) now new text text' replied) → Does m (parsed_line line) now new
    → take (whole + 1) did' ≡ take whole did ++ d ∷ [] → whole + 1 ≤ length did'
    → (answered' ≡ true → (answered ≡ true) × (d ≡ did_of performs.memory (parsed_line line) now))
    → IsKnown first lines did' answered' (take whole marks ++ m ∷ []) (whole + 1) 0 new
known_next {first = first} {now = now} {new = new} {lines = lines} {did = did} {marks = marks} {whole = whole} m line d
    did' answered' known next within performs does same noted told =
    let cut = known_cut known in
    let xs = cut.all in
    let x : PlayedLine = record { line = line; refused = performs.memory } in
    let front = length-take-le whole marks known.within in
    let many : length xs ≡ whole = known_length cut ∙ front in
    let here : now ≡ after_all xs first = cut.session ∙ ap (λ l. after_all l first) (take_all whole xs (omega arith)) in
    let long : length (take whole marks ++ m ∷ []) ≡ whole + 1 = omega (arith, length-append (take whole marks) (m ∷ [])) in
    let all_long = length-append xs (x ∷ []) in
    record {
      all = xs ++ x ∷ [];
      played = record {
        each = map-append (λ (played : PlayedLine). played.line) xs (x ∷ [])
            ∙ ap (λ l. l ++ line ∷ []) (cut.played.each ∙ ap (λ n. take n lines) front)
            ∙ sym (take-more whole lines line next) ∙ ap (λ n. take n lines) (sym long);
        allowed = allowed_push xs x first cut.played.allowed (subst (IsAllowed x) here performs.allowed);
      };
      does = AllDo-push (take whole marks) xs m x first (front ∙ sym many) cut.does
          (subst (λ s. Does m (parsed_line line) s (after_played x s)) here
          (subst (Does m (parsed_line line) now) performs.session does));
      noted = λ all. ap (λ n. take n did') long ∙ same
          ∙ ap (λ l. l ++ d ∷ []) (ap (λ n. take n did) (sym front) ∙ cut.noted (told all).0)
          ∙ ap (λ e. all_did xs first ++ e ∷ []) ((told all).1 ∙ ap (λ s. did_of performs.memory (parsed_line line) s) here)
          ∙ sym (all_did-append xs x first);
      within = omega arith;
      known = omega arith;
      performed = omega (arith, long, noted);
      session = performs.session ∙ ap (after_played x) here ∙ sym (after_all-append xs (x ∷ []) first)
          ∙ ap (λ l. after_all l first) (sym (take_all (whole + 1) (xs ++ x ∷ []) (omega arith)));
    }

-- ---- along known lines

-- the session is behind an earlier line, where as many events lie between as are taken back
pub known_here : {first now : Session} {lines : List (List ℕ)} {did : List Did} {answered : Bool} {marks : List Known} {whole back : ℕ} (here : ℕ)
    (known : IsKnown first lines did answered marks whole back now) → here ≤ whole
    → events_in (take (whole - here) (drop here marks)) ≡ Some back → now ≡ after_all (take here known.all) first
known_here {first = first} {marks = marks} {whole = whole} {back = back} here known le is =
    let xs = known.all in
    let s = after_all (take here xs) first in
    let short : whole - here ≤ length (drop here marks) = omega (arith, length-drop here marks, known.within) in
    known.session ∙ ap (taken_back back) (split_to here whole xs first le)
    ∙ along (whole - here) back (drop here marks) (drop here xs) s (AllDo-drop here marks xs first known.does) short is

known_at : {first now : Session} {lines : List (List ℕ)} {did : List Did} {answered : Bool} {marks : List Known} {whole back : ℕ} (line : ℕ) (new : Session)
    (known : IsKnown first lines did answered marks whole back now) → line ≤ length marks → new ≡ after_all (take line known.all) first
    → IsKnown first lines did answered marks line 0 new
known_at line new known le is = record {
  all = known.all;
  played = known.played;
  does = known.does;
  noted = known.noted;
  within = le;
  known = known.known;
  performed = known.performed;
  session = is;
}

-- from there, lines are taken back
pub known_before : {first now new : Session} {lines : List (List ℕ)} {did : List Did} {answered : Bool} {marks : List Known} {whole back : ℕ} (here line : ℕ)
    (known : IsKnown first lines did answered marks whole back now) → here ≤ whole
    → events_in (take (whole - here) (drop here marks)) ≡ Some back → line ≤ here
    → ((all : List PlayedLine) (from : Session) → AllDo (take (here - line) (drop line marks)) all from
    → now ≡ after_all (take (length (take (here - line) (drop line marks))) all) from → new ≡ from)
    → IsKnown first lines did answered marks line 0 new
known_before {first = first} {now = now} {new = new} {marks = marks} {whole = whole} here line known le is less leads =
    let xs = known.all in
    let s = after_all (take line xs) first in
    let some = take (here - line) (drop line marks) in
    let long : length some ≡ here - line =
    length-take-le (here - line) (drop line marks) (omega (arith, length-drop line marks, known.within)) in
    let there : now ≡ after_all (take (length some) (drop line xs)) s =
    known_here here known le is ∙ split_to line here xs first less
    ∙ ap (λ n. after_all (take n (drop line xs)) s) (sym long) in
    known_at line new known (omega (arith, known.within))
    (leads (drop line xs) s (AllDo-front (here - line) (drop line marks) (drop line xs) s
    (AllDo-drop line marks xs first known.does)) there)

-- the lines from there on, up to another
pub done_between : {first now : Session} {lines : List (List ℕ)} {did : List Did} {answered : Bool} {marks : List Known} {whole back : ℕ} (here line : ℕ)
    (known : IsKnown first lines did answered marks whole back now) → here ≤ whole
    → events_in (take (whole - here) (drop here marks)) ≡ Some back → here ≤ line → line ≤ length marks
    → AreDone (take (line - here) (drop here known.all)) (take (line - here) (drop here marks))
    (take (line - here) (drop here lines)) now
done_between {first = first} {lines = lines} {marks = marks} here line known le is more within =
    let xs = known.all in
    let k = line - here in
    let f = λ (played : PlayedLine). played.line in
    let upto : here + k ≤ length marks = omega arith in
    record {
      each = sym (take-map f k (drop here xs)) ∙ ap (take k) (sym (drop-map f here xs) ∙ ap (drop here) known.played.each)
          ∙ sym (drop-take here k (take (length marks) lines))
          ∙ ap (drop here) (take-take (here + k) (length marks) lines upto) ∙ drop-take here k lines;
      does = subst (AllDo (take k (drop here marks)) (take k (drop here xs))) (sym (known_here here known le is))
          (AllDo-take k (drop here marks) (drop here xs) (after_all (take here xs) first)
          (AllDo-drop here marks xs first known.does));
    }

-- they are performed again
pub known_behind : {first now new : Session} {lines : List (List ℕ)} {did : List Did} {answered : Bool} {marks : List Known} {whole back : ℕ} (here line : ℕ)
    (known : IsKnown first lines did answered marks whole back now) → here ≤ whole
    → events_in (take (whole - here) (drop here marks)) ≡ Some back → here ≤ line → line ≤ length marks
    → ((all : List PlayedLine)
    → AreDone all (take (line - here) (drop here marks)) (take (line - here) (drop here lines)) now
    → new ≡ after_all (take (length (take (line - here) (drop here marks))) all) now) → IsKnown first lines did answered marks line 0 new
known_behind {first = first} {now = now} {new = new} {marks = marks} here line known le is more within leads =
    let xs = known.all in
    let k = line - here in
    let some = take k (drop here marks) in
    let long : length some ≡ k = length-take-le k (drop here marks) (omega (arith, length-drop here marks)) in
    let all : take (length some) (take k (drop here xs)) ≡ take k (drop here xs) =
    ap (λ n. take n (take k (drop here xs))) long ∙ take-take k k (drop here xs) (omega arith) in
    known_at line new known within
    (leads (take k (drop here xs)) (done_between here line known le is more within)
    ∙ ap (λ l. after_all l now) all ∙ ap (after_all (take k (drop here xs))) (known_here here known le is)
    ∙ sym (split_to here line xs first more))
