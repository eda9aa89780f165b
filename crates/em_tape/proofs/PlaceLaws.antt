-- The session at a place is a function of the place.
use Rattle.std.proofs.Common.{◌≡◌, ℕ, false, List, [], ◌∷◌, map, Option, Some, None, refl, sym, ap, ◌∙◌, subst}
use Rattle.std.specs.List.{AllByRecursion}
use Rattle.std.proofs.lemmas.Bool.{false≢true}
use Rattle.em_script.specs.RefusedAt.{RefusedAt, before}
use Rattle.em_script.specs.Session.{Session}
use Rattle.em_line.specs.Command.{event}
use Rattle.em_line.specs.Grammar.{parsed_line}
use Rattle.em_line.specs.ParsedLine.{ParsedLine, says, asks, plans}
use Rattle.em_script.specs.Reply.{line_takes_memory, IsAllowed as IsLineAllowed}
use Rattle.em_script.specs.PlayedLine.{PlayedLine, after_played, after_all, AreAllowed, with_memory}
use Rattle.em_tape.specs.Tape.{IsAt, HadMemory, session_at, taken_back}

-- such lines are those with memory
pub all_with_memory : (all : List PlayedLine) → HadMemory all
    → all ≡ with_memory (map (λ (played : PlayedLine). played.line) all)
all_with_memory [] had = refl
all_with_memory (x ∷ xs) had =
    let make : Option RefusedAt → PlayedLine = λ refused. record { line = x.line; refused = refused } in
    ap (λ refused. make refused ∷ xs) had.0 ∙ ap (λ ys. make None ∷ ys) (all_with_memory xs had.1)

pub place_is : (first now : Session) (lines : List (List ℕ)) (back : ℕ) (place : IsAt first lines back now)
    → HadMemory place.all → now ≡ session_at first lines back
place_is first now lines back place had =
    place.session ∙ ap (λ all. taken_back back (after_all all first))
    (all_with_memory place.all had ∙ ap with_memory place.played.each)

not_refused : (memory : Option RefusedAt) (parsed : ParsedLine) (session : Session)
    → IsLineAllowed memory parsed session → line_takes_memory parsed ≡ false → memory ≡ None
not_refused None parsed session allowed none = refl
not_refused (Some before) (says (event e)) session allowed none = absurd (false≢true (sym none ∙ allowed.0))
not_refused (Some refused) (asks request) session allowed none = absurd (false≢true (sym none))
not_refused (Some refused) (plans plan) session allowed none = absurd (false≢true (sym none))
not_refused (Some refused) _ session allowed none = absurd allowed

took_none : (all : List PlayedLine) (session : Session) → AreAllowed all session
    → AllByRecursion (λ line. line_takes_memory (parsed_line line) ≡ false)
    (map (λ (played : PlayedLine). played.line) all) → HadMemory all
took_none [] session allowed none = tt
took_none (x ∷ xs) session allowed none = (
  not_refused x.refused (parsed_line x.line) session allowed.0 none.0,
  took_none xs (after_played x session) allowed.1 none.1,
)

pub place_takes_none : (first now : Session) (lines : List (List ℕ)) (back : ℕ) → IsAt first lines back now
    → AllByRecursion (λ line. line_takes_memory (parsed_line line) ≡ false) lines
    → now ≡ session_at first lines back
place_takes_none first now lines back place none =
    place_is first now lines back place (took_none place.all first place.played.allowed
    (subst (AllByRecursion (λ line. line_takes_memory (parsed_line line) ≡ false)) (sym place.played.each) none))
