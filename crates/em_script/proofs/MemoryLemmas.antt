-- Scripts to which memory was refused nowhere.
use Rattle.std.proofs.Common.{◌≡◌, ◌⊎◌, inl, inr, ℕ, ◌+◌, Bool, true, false, List, [], ◌∷◌, ◌++◌, map, Option, Some}
use Rattle.std.proofs.Common.{None}
use Rattle.std.proofs.Common.{refl, sym, ap, ap₂, ◌∙◌, subst}
use Rattle.std.specs.Prelude.{codes, IsTrue}
use Rattle.std.specs.Io.KnownBytes.{Appends}
use Rattle.std.specs.List.{AllByRecursion}
use Rattle.std.proofs.lemmas.Bool.{false≢true}
use Rattle.std.proofs.lemmas.List.{append_cancel_left}
use Rattle.em_text.specs.Lines.{lines_of}
use Rattle.em_script.specs.Session.{Session}
use Rattle.em_line.specs.Command.{event}
use Rattle.em_line.specs.ParsedLine.{ParsedLine, says, asks, plans}
use Rattle.em_driver.specs.Play.{Played}
use Rattle.em_script.specs.DriverAnswer.{DriverAnswer}
use Rattle.em_line.specs.Request.{Request}
use Rattle.em_script.specs.RefusedAt.{RefusedAt, before, within}
use Rattle.em_script.specs.Calling.{has_driver, asked_text, CanBeDone}
use Rattle.em_script.proofs.DriverAnswerLemmas.{says_before, says_behind}
use Rattle.em_script.proofs.CallingLemmas.{named_says}
use Rattle.em_line.specs.Grammar.{parsed_line}
use Rattle.em_script.specs.Reply.{line_text, line_takes_memory, IsAllowed as IsLineAllowed}
use Rattle.em_script.specs.PlayedLine.{PlayedLine, played_text, after_played, AreAllowed, text_from, ArePlayed}
use Rattle.em_script.specs.PlayedLine.{with_memory}
use Rattle.em_script.specs.ScriptText.{TakesNoMemory, SaysMemory, text}

-- memory was refused to none of them
abbrev pub HadMemory : List PlayedLine → Type 0
HadMemory all = AllByRecursion (λ (played : PlayedLine). played.refused ≡ None) all

-- ---- where no line takes memory

not_refused : (memory : Option RefusedAt) (parsed : ParsedLine) (session : Session)
    → IsLineAllowed memory parsed session → line_takes_memory parsed ≡ false → memory ≡ None
not_refused None parsed session allowed none = refl
not_refused (Some before) (says (event e)) session allowed none = absurd (false≢true (sym none ∙ allowed.0))
not_refused (Some refused) (asks request) session allowed none = absurd (false≢true (sym none))
not_refused (Some refused) (plans plan) session allowed none = absurd (false≢true (sym none))
not_refused (Some refused) _ session allowed none = absurd allowed

took_none : (all : List PlayedLine) (session : Session) → AreAllowed all session
    → AllByRecursion (λ line. line_takes_memory (parsed_line line) ≡ false)
    (map (λ (played : PlayedLine). played.line) all)
    → HadMemory all
took_none [] session allowed none = tt
took_none (x ∷ xs) session allowed none = (
  not_refused x.refused (parsed_line x.line) session allowed.0 none.0,
  took_none xs (after_played x session) allowed.1 none.1,
)

-- ---- where no line that is written ends in ` Memory`

-- a call to which memory was refused says so
asked_says : (did : Played DriverAnswer) (request : Request) (session : Session) (stands : Bool)
    → has_driver request session ≡ stands → IsTrue stands → CanBeDone (Some did) request session
    → SaysMemory (asked_text (Some did) request session)
asked_says did request session true is stands can = rw is (named_says did request session can)
asked_says did request session false is stands can = absurd (false≢true stands)

refusal_says : SaysMemory (codes "refused Memory\n")
refusal_says = (codes "refused", [], refl)

-- a line to which memory was refused says so
refused_says : (number : ℕ) (memory : Option RefusedAt) (parsed : ParsedLine) (session : Session)
    → IsLineAllowed memory parsed session
    → (memory ≡ None) ⊎ SaysMemory (line_text number memory parsed session)
refused_says number None parsed session allowed = inl refl
refused_says number (Some before) (says (event e)) session allowed = inr refusal_says
refused_says number (Some (within did calls)) (asks request) session allowed =
    inr (asked_says did request session (has_driver request session) refl allowed.0 allowed.1)
refused_says number (Some before) (plans plan) session allowed = inr refusal_says
refused_says number (Some refused) _ session allowed = absurd allowed

said_none : (number : ℕ) (all : List PlayedLine) (session : Session) → AreAllowed all session
    → (SaysMemory (text_from number all session) → ⊥) → HadMemory all
said_none number [] session allowed none = tt
said_none number (x ∷ xs) session allowed none =
    let after = after_played x session in
    let own = played_text number x session in
    let rest = text_from (number + 1) xs after in
    elim (refused_says number x.refused (parsed_line x.line) session allowed.0) [
      | inl had ↦ (had, said_none (number + 1) xs after allowed.1 (λ h. none (says_behind own rest h)))
      | inr told ↦ absurd (none (says_before own rest told))
    ]

-- ---- the script's own text

had_memory : (all : List PlayedLine) → HadMemory all
    → all ≡ with_memory (map (λ (played : PlayedLine). played.line) all)
had_memory [] h = refl
had_memory (x ∷ xs) h =
    let make : Option RefusedAt → PlayedLine = λ r. record { line = x.line; refused = r } in
    ap₂ (λ (p : PlayedLine) ps. p ∷ ps) (ap make h.0) (had_memory xs h.1)

own_text : {all : List PlayedLine} {first : Session} (script : List ℕ) → ArePlayed all (lines_of script) first
    → HadMemory all → text_from 1 all first ≡ text script first
own_text {all = all} {first = first} script played had =
    ap (λ lines. text_from 1 lines first) (had_memory all had ∙ ap with_memory played.each)

pub text_without_memory : {all : List PlayedLine} {first : Session} (old new : Option (List ℕ)) (script : List ℕ)
    → ArePlayed all (lines_of script) first → Appends old new (text_from 1 all first) → TakesNoMemory script
    → Appends old new (text script first)
text_without_memory {all = all} {first = first} old new script played written none =
    let took = took_none all first played.allowed (rw (played.each) none) in
    subst (Appends old new) (own_text script played took) written

pub text_with_memory : {all : List PlayedLine} {first : Session} (old new : Option (List ℕ)) (script other : List ℕ)
    → ArePlayed all (lines_of script) first → Appends old new (text_from 1 all first)
    → Appends old new other → (SaysMemory other → ⊥) → Appends old new (text script first)
text_with_memory None new script other played written same none = tt
text_with_memory (Some x) None script other played written same none = absurd written
text_with_memory {all = all} {first = first} (Some x) (Some y) script other played written same none =
    let e : text_from 1 all first ≡ other = append_cancel_left x _ _ (sym written ∙ same) in
    let had = said_none 1 all first played.allowed (λ h. none (subst SaysMemory e h)) in
    written ∙ ap (λ l. x ++ l) (own_text script played had)
