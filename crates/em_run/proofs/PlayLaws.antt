-- Lines that are played one after another, and what each of them does.
use Rattle.std.proofs.Common.{◌≡◌, ℕ, suc, ◌+◌, List, [], ◌∷◌, ◌++◌, length, map, refl, sym, ap, ◌∙◌, arith}
use Rattle.std.proofs.Common.{append_assoc, Option, Some, None, codes}
use Rattle.std.specs.Prelude.{option_map}
use Rattle.std.specs.List.{flat_map}
use Rattle.std.proofs.lemmas.List.{map-append}
use Rattle.std.proofs.lemmas.Grind.{flat_map-append}
use Rattle.em_journal.specs.View.{View}
use Rattle.em_line.specs.Command.{Command}
use Rattle.em_line.specs.Parts.{expected_in, said_in}
use Rattle.em_script.specs.PlayedLine.{PlayedLine, after_all, after_played, played_text, text_from, with_memory}
use Rattle.em_script.specs.Reply.{after_line, line_text, reply}
use Rattle.em_script.specs.Session.{Session, bare}
use Rattle.em_kept.specs.Source.{Source}
use Rattle.em_kept.specs.ReadBack.{IsSilent, ReadsBack}
use Rattle.em_run.specs.KeptRun.{expected_text, printed}

abbrev with_all : List ℕ → PlayedLine
with_all line = record { line = line; refused = None }

-- lines as they are played
abbrev pub played : List (List ℕ) → List PlayedLine
played lines = with_memory (map said_in lines)

-- they lead from one session to the other, and print what they expect
pub record Plays (lines : List (List ℕ)) (s t : Session) : Type 0 where
  pub leads : after_all (played lines) s ≡ t
  pub prints : (n : ℕ) → text_from n (played lines) s ≡ flat_map expected_text lines

-- ---- one after another

after_append : (xs ys : List PlayedLine) (s : Session) → after_all (xs ++ ys) s ≡ after_all ys (after_all xs s)
after_append [] ys s = refl
after_append (x ∷ xs) ys s = after_append xs ys (after_played x s)

text_append : (n : ℕ) (xs ys : List PlayedLine) (s : Session)
    → text_from n (xs ++ ys) s ≡ text_from n xs s ++ text_from (n + length xs) ys (after_all xs s)
text_append n [] ys s =
    let e : n ≡ n + 0 = omega arith in
    ap (λ k. text_from k ys s) e
text_append n (x ∷ xs) ys s =
    let after = after_played x s in
    let e : n + 1 + length xs ≡ n + suc (length xs) = omega arith in
    ap (λ l. played_text n x s ++ l) (text_append (n + 1) xs ys after)
    ∙ ap (λ k. played_text n x s ++ (text_from (n + 1) xs after ++ text_from k ys (after_all xs after))) e
    ∙ sym (append_assoc (played_text n x s) (text_from (n + 1) xs after) _)

played_append : (xs ys : List (List ℕ)) → played (xs ++ ys) ≡ played xs ++ played ys
played_append xs ys =
    ap with_memory (map-append said_in xs ys)
    ∙ map-append with_all (map said_in xs) (map said_in ys)

pub nothing : (s : Session) → Plays [] s s
nothing s = record { leads = refl; prints = λ n. refl }

pub join : (xs ys : List (List ℕ)) (s m t : Session) → Plays xs s m → Plays ys m t → Plays (xs ++ ys) s t
join xs ys s m t p q = record {
  leads = ap (λ l. after_all l s) (played_append xs ys) ∙ after_append (played xs) (played ys) s
      ∙ ap (after_all (played ys)) p.leads ∙ q.leads;
  prints = λ n. ap (λ l. text_from n l s) (played_append xs ys) ∙ text_append n (played xs) (played ys) s
      ∙ ap (λ l. l ++ text_from (n + length (played xs)) (played ys) (after_all (played xs) s)) (p.prints n)
      ∙ ap (λ x. flat_map expected_text xs ++ text_from (n + length (played xs)) (played ys) x) p.leads
      ∙ ap (λ l. flat_map expected_text xs ++ l) (q.prints (n + length (played xs)))
      ∙ sym (flat_map-append expected_text xs ys);
}

-- ---- one line

printed_is : (o : Option (List ℕ)) (text : List ℕ) → option_map (λ l. l ++ codes "\n") o ≡ Some text → printed o ≡ text
printed_is None text e = cc
printed_is (Some answer) text e = cc

-- a line that says a command
pub obeyed : (line text : List ℕ) (command : Command) (source : Source) (v w : View) → ReadsBack line command text source
    → (reply None command v).machine ≡ w → (reply None command v).text ≡ text → Plays (line ∷ []) (bare v) (bare w)
obeyed line text command source v w read machine answer = record {
  leads = ap (λ p. after_line None p (bare v)) read.says ∙ ap bare machine;
  prints = λ n. ap (λ p. line_text n None p (bare v) ++ []) read.says
      ∙ ap (λ l. l ++ []) (answer ∙ sym (printed_is (expected_in line) text read.expects));
}

-- a line that says nothing
pub passed : (line : List ℕ) (s : Session) → IsSilent line → Plays (line ∷ []) s s
passed line s is = record {
  leads = ap (λ p. after_line None p s) is.says;
  prints = λ n. ap (λ p. line_text n None p s ++ []) is.says ∙ ap (λ o. printed o ++ []) (sym is.expects);
}
