-- Playing one line after another.
use Rattle.std.proofs.Common.{◌≡◌, ℕ, ◌+◌, List, [], ◌∷◌, ◌++◌, length, take, count_by, cond, Option, Bool}
use Rattle.std.proofs.Common.{refl, sym, ap, ◌∙◌, subst, arith, IsTrue, append_assoc, append-nil, length-append, add-zero}
use Rattle.std.specs.Io.KnownBytes.{Appends}
use Rattle.std.proofs.lemmas.List.{map-append}
use Rattle.std.proofs.lemmas.List.Sums.{sum_by_push}
use Rattle.em_text.specs.Lines.{lines_of}
use Rattle.em_text.specs.Writer.{WritesPart}
use Rattle.em_text.proofs.WritingLemmas.{Appends-more}
use Rattle.em_script.specs.declared.outcome.Outcome.{Outcome}
use Rattle.em_script.specs.declared.outcome.Outcome.TheVariants.{Silent, Bad, Answered, Done, Refused}
use Rattle.em_run.specs.declared.summary.Summary.{Summary}
use Rattle.em_line.specs.Grammar.{parsed_line}
use Rattle.em_line.specs.ParsedLine.{brings_octets}
use Rattle.em_script.specs.Session.{Session}
use Rattle.em_script.specs.PlayedLine.{PlayedLine, played_text, played_outcome, after_played, IsAllowed, AreAllowed}
use Rattle.em_script.specs.PlayedLine.{text_from, after_all, outcomes, ArePlayed}
use Rattle.em_run.specs.Summary.{counts, after_outcome, is_counted, is_bad, is_refused}
use Rattle.em_run.specs.Runner.{FailsInLine, StopsBeforeLine}

-- the lines before `rest` were played: their text is written, their session is left, and they are counted
pub record Ran (lines rest : List (List ℕ)) (first now : Session) (old new : Option (List ℕ)) (number : ℕ)
    (summary : Summary) : Type 0 where
  pub before : List PlayedLine
  pub done : List (List ℕ)
  pub cut : lines ≡ done ++ rest
  pub played : ArePlayed before done first
  pub session : now ≡ after_all before first
  pub written : Appends old new (text_from 1 before first)
  pub next : number ≡ length before + 1
  pub count : summary ≡ counts (outcomes before first)

-- ---- one more line

text_from-append : (number : ℕ) (xs ys : List PlayedLine) (session : Session)
    → text_from number (xs ++ ys) session
    ≡ text_from number xs session ++ text_from (number + length xs) ys (after_all xs session)
text_from-append number [] ys session = ap (λ n. text_from n ys session) (sym (add-zero number))
text_from-append number (x ∷ xs) ys session =
    let after = after_played x session in
    let one = played_text number x session in
    let e : number + 1 + length xs ≡ number + length (x ∷ xs) = omega arith in
    let all = text_from-append (number + 1) xs ys after
    ∙ ap (λ n. text_from (number + 1) xs after ++ text_from n ys (after_all xs after)) e in
    ap (λ l. one ++ l) all ∙ sym (append_assoc one (text_from (number + 1) xs after) _)

after_all-append : (xs ys : List PlayedLine) (session : Session)
    → after_all (xs ++ ys) session ≡ after_all ys (after_all xs session)
after_all-append [] ys session = refl
after_all-append (x ∷ xs) ys session = after_all-append xs ys (after_played x session)

outcomes-append : (xs ys : List PlayedLine) (session : Session)
    → outcomes (xs ++ ys) session ≡ outcomes xs session ++ outcomes ys (after_all xs session)
outcomes-append [] ys session = refl
outcomes-append (x ∷ xs) ys session =
    ap (λ l. played_outcome x session ∷ l) (outcomes-append xs ys (after_played x session))

allowed_push : (xs : List PlayedLine) (x : PlayedLine) (session : Session) → AreAllowed xs session
    → IsAllowed x (after_all xs session) → AreAllowed (xs ++ x ∷ []) session
allowed_push [] x session all one = (one, tt)
allowed_push (y ∷ ys) x session all one = (all.0, allowed_push ys x (after_played y session) all.1 one)

played_push : {xs : List PlayedLine} {done : List (List ℕ)} {session : Session} (x : PlayedLine)
    → ArePlayed xs done session → IsAllowed x (after_all xs session)
    → ArePlayed (xs ++ x ∷ []) (done ++ x.line ∷ []) session
played_push {xs = xs} {session = session} x all one = record {
  each = map-append (λ (played : PlayedLine). played.line) xs (x ∷ []) ∙ ap (λ l. l ++ x.line ∷ []) all.each;
  allowed = allowed_push xs x session all.allowed one;
}

same_summary : {s t : Summary} → s.lines ≡ t.lines → s.bad ≡ t.bad → s.refused ≡ t.refused → s ≡ t
same_summary {s = s} {t = t} p q r =
    let make : ℕ → ℕ → ℕ → Summary = λ x y z. record { lines = x; bad = y; refused = z } in
    ap (λ x. make x s.bad s.refused) p ∙ ap (λ y. make t.lines y s.refused) q ∙ ap (make t.lines t.bad) r

count_by_push : (p : Outcome → Bool) (all : List Outcome) (y : Outcome)
    → count_by p (all ++ y ∷ []) ≡ count_by p all + cond (p y) 1 0
count_by_push p all y = sum_by_push (λ x. cond (p x) 1 0) all y

-- one more line is counted once
counts-push : (all : List Outcome) (y : Outcome) → counts (all ++ y ∷ []) ≡ after_outcome (counts all) y
counts-push all Silent =
    same_summary (count_by_push is_counted all Silent ∙ add-zero _) (count_by_push is_bad all Silent ∙ add-zero _)
    (count_by_push is_refused all Silent ∙ add-zero _)
counts-push all Bad =
    same_summary (count_by_push is_counted all Bad) (count_by_push is_bad all Bad)
    (count_by_push is_refused all Bad ∙ add-zero _)
counts-push all Done =
    same_summary (count_by_push is_counted all Done) (count_by_push is_bad all Done ∙ add-zero _)
    (count_by_push is_refused all Done ∙ add-zero _)
counts-push all (Answered answer) =
    same_summary (count_by_push is_counted all (Answered answer)) (count_by_push is_bad all (Answered answer) ∙ add-zero _)
    (count_by_push is_refused all (Answered answer) ∙ add-zero _)
counts-push all (Refused why) =
    same_summary (count_by_push is_counted all (Refused why)) (count_by_push is_bad all (Refused why) ∙ add-zero _)
    (count_by_push is_refused all (Refused why))

pub Ran-more : {lines rest behind : List (List ℕ)} {first now after : Session} {old mid new : Option (List ℕ)}
    {number : ℕ} {summary more : Summary} (x : PlayedLine) → Ran lines rest first now old mid number summary
    → rest ≡ x.line ∷ behind → IsAllowed x now → after ≡ after_played x now
    → Appends mid new (played_text number x now) → more ≡ after_outcome summary (played_outcome x now)
    → Ran lines behind first after old new (number + 1) more
Ran-more {behind = behind} {first = first} {now = now} {old = old} {mid = mid} {new = new} {number = number} x
    ran er allowed ea w em =
    let before = ran.before in
    let session = ran.session in
    let next : number ≡ 1 + length before = omega (arith, ran.next) in
    let own : played_text number x now ≡ text_from (1 + length before) (x ∷ []) (after_all before first) =
    ap (λ n. played_text n x now) next ∙ ap (played_text (1 + length before) x) session ∙ sym (append-nil _) in
    record {
      before = before ++ x ∷ [];
      done = ran.done ++ x.line ∷ [];
      cut = ran.cut ∙ ap (λ l. ran.done ++ l) er ∙ sym (append_assoc ran.done (x.line ∷ []) behind);
      played = played_push x ran.played (subst (IsAllowed x) session allowed);
      session = ea ∙ ap (after_played x) session ∙ sym (after_all-append before (x ∷ []) first);
      written = Appends-more old mid new (text_from 1 before first) (played_text number x now) _ ran.written w
          (text_from-append 1 before (x ∷ []) first ∙ ap (λ l. text_from 1 before first ++ l) (sym own));
      next = omega (arith, next, length-append before (x ∷ []));
      count = em ∙ ap (λ s. after_outcome s (played_outcome x now)) ran.count
          ∙ ap (λ d. after_outcome (counts (outcomes before first)) (played_outcome x d)) session
          ∙ sym (counts-push (outcomes before first) _) ∙ ap counts (sym (outcomes-append before (x ∷ []) first));
    }

-- ---- where a run ends

-- no line is left
pub Ran-all : {lines rest : List (List ℕ)} {first now : Session} {old new : Option (List ℕ)} {number : ℕ}
    {summary : Summary} (ran : Ran lines rest first now old new number summary) → rest ≡ []
    → ArePlayed ran.before lines first
Ran-all ran e = rw (ran.cut ∙ ap (λ l. ran.done ++ l) e ∙ append-nil ran.done) ran.played

-- a line's text was written in part
pub Ran-fails : {rest behind : List (List ℕ)} {first now after : Session} {old mid new : Option (List ℕ)} {number : ℕ}
    {summary : Summary} (script : List ℕ) (x : PlayedLine) → Ran (lines_of script) rest first now old mid number summary
    → rest ≡ x.line ∷ behind → IsAllowed x now → after ≡ after_played x now
    → WritesPart mid new (played_text number x now) → FailsInLine script first after old new
Ran-fails {behind = behind} {first = first} {now = now} {old = old} {mid = mid} {new = new} {number = number} script x
    ran er allowed ea part =
    let before = ran.before in
    let own = played_text (length before + 1) x (after_all before first) in
    let same : played_text number x now ≡ own =
    ap (λ n. played_text n x now) ran.next ∙ ap (played_text (length before + 1) x) ran.session in
    let cut = rw same at part in
    record {
      before = before;
      failed = x;
      done = ran.done;
      behind = behind;
      lines = ran.cut ∙ ap (λ l. ran.done ++ l) er;
      played = ran.played;
      allowed = subst (IsAllowed x) ran.session allowed;
      session = ea ∙ ap (after_played x) ran.session;
      octets = cut.octets;
      part = cut.part;
      written = Appends-more old mid new (text_from 1 before first) (take cut.octets own) _ ran.written cut.written
          refl;
    }

-- a line's octets found no memory
pub Ran-stops : {rest behind : List (List ℕ)} {first now after : Session} {old mid new : Option (List ℕ)} {number : ℕ}
    {summary : Summary} (script line : List ℕ) → Ran (lines_of script) rest first now old mid number summary
    → rest ≡ line ∷ behind → IsTrue (brings_octets (parsed_line line)) → after ≡ now → new ≡ mid
    → StopsBeforeLine script first after old new
Ran-stops {behind = behind} {first = first} {old = old} script line ran er octets same unwritten = record {
  before = ran.before;
  line = line;
  done = ran.done;
  behind = behind;
  lines = ran.cut ∙ ap (λ l. ran.done ++ l) er;
  octets = octets;
  played = ran.played;
  session = same ∙ ran.session;
  written = subst (λ text. Appends old text (text_from 1 ran.before first)) (sym unwritten) ran.written;
}
