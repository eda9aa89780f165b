-- A place that moves, and the lines behind it.
use Rattle.std.proofs.Common.{◌≡◌, ℕ, ◌+◌, ◌-◌, ◌<◌, ◌≤◌, zero, suc, List, [], ◌∷◌, ◌++◌, length, take, drop, Some, Option, Result}
use Rattle.std.proofs.Common.{refl, sym, ap, ◌∙◌, subst, arith, inl, inr}
use Rattle.std.specs.Prelude.{slice_get, get_or, All, insert, min}
use Rattle.std.specs.Option.{option_map}
use Rattle.std.proofs.lemmas.Bool.{cases_lt}
use Rattle.std.proofs.lemmas.List.{drop-map, map-append, nil_from_length, take-map}
use Rattle.std.proofs.lemmas.Option.{slice_get-map, slice_get-get_or, get_or_from_slice_get, slice_get_within}
use Rattle.smallvec.specs.SmallVec.{SmallVec}
use Rattle.em_tape.specs.Texts.{texts}
use Rattle.em_journal.specs.View.{View, after_back, after_backs}
use Rattle.em_journal.proofs.BackLaws.{no_more_back, past_left}
use Rattle.em_line.specs.Grammar.{parsed_line}
use Rattle.em_text.specs.declared.writer.WriteFailed.{WriteFailed}
use Rattle.em_script.specs.declared.outcome.Outcome.{Outcome}
use Rattle.em_script.specs.Session.{Session}
use Rattle.em_script.specs.Reply.{Performs}
use Rattle.em_script.specs.PlayedLine.{PlayedLine, after_played, after_all, IsAllowed, AreAllowed}
use Rattle.em_tape.specs.Tape.{IsAt, IsShort, taken_back}

-- ---- one more line

pub after_all-append : (xs ys : List PlayedLine) (session : Session)
    → after_all (xs ++ ys) session ≡ after_all ys (after_all xs session)
after_all-append [] ys session = refl
after_all-append (x ∷ xs) ys session = after_all-append xs ys (after_played x session)

pub allowed_push : (xs : List PlayedLine) (x : PlayedLine) (session : Session) → AreAllowed xs session
    → IsAllowed x (after_all xs session) → AreAllowed (xs ++ x ∷ []) session
allowed_push [] x session all one = (one, tt)
allowed_push (y ∷ ys) x session all one = (all.0, allowed_push ys x (after_played y session) all.1 one)

-- one more of a list's items
take-suc : {X : Type 0} (k : ℕ) (xs : List X) (x : X) → slice_get xs k ≡ Some x
    → take (suc k) xs ≡ take k xs ++ x ∷ []
take-suc k [] x is = absurd (cc)
take-suc zero (y ∷ ys) x is = let same : y ≡ x = cc in ap (λ z. z ∷ []) same
take-suc (suc k) (y ∷ ys) x is = ap (λ l. y ∷ l) (take-suc k ys x is)

pub take-more : {X : Type 0} (k : ℕ) (xs : List X) (x : X) → slice_get xs k ≡ Some x
    → take (k + 1) xs ≡ take k xs ++ x ∷ []
take-more k xs x is =
    let e : k + 1 ≡ suc k = omega arith in
    ap (λ n. take n xs) e ∙ take-suc k xs x is

-- no line was played yet
pub at_first : (first : Session) → IsAt first [] 0 first
at_first first = record { all = []; played = record { each = refl; allowed = tt }; session = refl }

-- a line is performed behind the others
pub at_more : {first now after : Session} {lines : List (List ℕ)} {number : ℕ} {old new : Option (List ℕ)}
    {replied : Result Outcome WriteFailed} (line : List ℕ) → IsAt first lines 0 now
    → Performs number (parsed_line line) now after old new replied → IsAt first (lines ++ line ∷ []) 0 after
at_more {first = first} {now = now} line place did =
    let x : PlayedLine = record { line = line; refused = did.memory } in
    let before = place.all in
    record {
      all = before ++ x ∷ [];
      played = record {
        each = map-append (λ (played : PlayedLine). played.line) before (x ∷ [])
            ∙ ap (λ l. l ++ line ∷ []) place.played.each;
        allowed = allowed_push before x first place.played.allowed (subst (IsAllowed x) place.session did.allowed);
      };
      session = did.session ∙ ap (after_played x) place.session ∙ sym (after_all-append before (x ∷ []) first);
    }

-- the next of the lines is performed
pub at_next : {first now after : Session} {number : ℕ} {old new : Option (List ℕ)}
    {replied : Result Outcome WriteFailed} (lines : List (List ℕ)) (k : ℕ) (line : List ℕ)
    → slice_get lines k ≡ Some line → IsAt first (take k lines) 0 now
    → Performs number (parsed_line line) now after old new replied → IsAt first (take (k + 1) lines) 0 after
at_next {first = first} {after = after} lines k line is place did =
    subst (λ ls. IsAt first ls 0 after) (sym (take-more k lines line is)) (at_more line place did)

-- a line as the code holds it
pub line_in : (ls : List (SmallVec ℕ)) (k : ℕ) (x : SmallVec ℕ) → k < length ls → x ≡ get_or ls k x
    → slice_get (texts ls) k ≡ Some x.items
line_in ls k x lt is =
    slice_get-map (λ (v : SmallVec ℕ). v.items) ls k
    ∙ ap (option_map (λ (v : SmallVec ℕ). v.items)) (slice_get-get_or ls k x lt ∙ ap Some (sym is))

-- each line is one that can be played
pub short_at : (lines : List (List ℕ)) (k : ℕ) (line : List ℕ) → All IsShort lines → slice_get lines k ≡ Some line
    → IsShort line
short_at lines k line short is =
    subst IsShort (get_or_from_slice_get lines k line [] is) (short k [] (slice_get_within lines k line is))

-- ---- steps back

after_backs-plus : (m n : ℕ) (v : View) → after_backs n (after_backs m v) ≡ after_backs (m + n) v
after_backs-plus zero n v =
    let e : n ≡ 0 + n = omega arith in
    ap (λ k. after_backs k v) e
after_backs-plus (suc m) n v =
    let e : suc (m + n) ≡ suc m + n = omega arith in
    after_backs-plus m n (after_back v) ∙ ap (λ k. after_backs k v) e

pub taken-plus : (m n : ℕ) (s : Session) → taken_back n (taken_back m s) ≡ taken_back (m + n) s
taken-plus m n s = ap (λ v. record s { machine = v }) (after_backs-plus m n s.machine)

length_nil : {X : Type 0} (xs : List X) (m n : ℕ) → length xs ≡ m - n → m ≤ n → xs ≡ []
length_nil xs m n is le =
    let none : length xs ≡ 0 = omega arith in
    nil_from_length xs none

-- no more steps are taken than the journal reaches
backs-min : (n : ℕ) (v : View) → after_backs n v ≡ after_backs (min n (length v.past)) v
backs-min n v = elim (cases_lt (length v.past) n) [
  | inl less ↦
      let k = length v.past in
      let w = after_backs k v in
      let e : k ≡ min n k = omega arith in
      let none : w.past ≡ [] = length_nil w.past k k (past_left k v w refl) (omega arith) in
      sym (no_more_back k n v w refl (omega arith) none) ∙ ap (λ i. after_backs i v) e
  | inr enough ↦
      let e : n ≡ min n (length v.past) = omega arith in
      ap (λ i. after_backs i v) e
]

-- a session as its call takes it back
pub session_back : (most taken : ℕ) (old new : Session) → taken ≡ min most (length old.machine.past)
    → new ≡ record old { machine = after_backs most old.machine } → new ≡ taken_back taken old
session_back most taken old new count is =
    is ∙ ap (λ v. record old { machine = v }) (backs-min most old.machine ∙ ap (λ n. after_backs n old.machine) (sym count))

-- how far the journal then reaches
pub past_back : (n : ℕ) (s : Session) → length (taken_back n s).machine.past ≡ length s.machine.past - n
past_back n s = past_left n s.machine (after_backs n s.machine) refl

-- more events are taken back
pub at_back : {first now : Session} {lines : List (List ℕ)} {back : ℕ} (n : ℕ) → IsAt first lines back now
    → IsAt first lines (back + n) (taken_back n now)
at_back {back = back} n place = record {
  all = place.all;
  played = place.played;
  session = ap (taken_back n) place.session ∙ taken-plus back n (after_all place.all _);
}

-- ---- a line among others

-- the octets of texts, one of which is put among the others
pub texts-insert : (lines : List (SmallVec ℕ)) (before : ℕ) (line : SmallVec ℕ)
    → texts (insert lines before line) ≡ insert (texts lines) before line.items
texts-insert lines before line =
    map-append (λ (v : SmallVec ℕ). v.items) (take before lines) (line ∷ drop before lines)
    ∙ ap (λ l. l ++ line.items ∷ texts (drop before lines)) (sym (take-map (λ (v : SmallVec ℕ). v.items) before lines))
    ∙ ap (λ l. take before (texts lines) ++ line.items ∷ l) (sym (drop-map (λ (v : SmallVec ℕ). v.items) before lines))
