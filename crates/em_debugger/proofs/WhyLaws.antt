-- What `why` tells: of the newest line that came out in some way, of a step, and of the interrupt line.
use Rattle.std.proofs.Common.{◌≡◌, ◌==◌, ℕ, zero, suc, ◌-◌, ◌<◌, ◌≤◌, nat_lt, true, false, cond, List, [], ◌∷◌, ◌++◌, length, take, drop, refl, sym, subst, ap, ◌∙◌, arith}
use Rattle.std.specs.Prelude.{bit_and, codes, get_or, IfErr, IfOk, Option, Some, Result, Ok, Err}
use Rattle.std.proofs.lemmas.Bool.Decides.{nat_tests}
use Rattle.std.proofs.lemmas.List.{take_all}
use Rattle.em_reasons.specs.Undone.{undone_by}
use Rattle.em_reasons.specs.Why.{IsWhyOf, why_looks}
use Rattle.em_reasons.specs.declared.why.Why.{Why}
use Rattle.em_reasons.specs.declared.why.Why.TheVariants.{RxIdle, TxIdle, Dropped, Refused}
use Rattle.em_journal.specs.History.{Does, WasJournalled, refuses}
use Rattle.em_journal.specs.View.{View}
use Rattle.em_prompt.specs.declared.typed.Side.{Side}
use Rattle.em_reasons.specs.declared.look.Look.{Look}
use Rattle.em_reasons.specs.declared.refused.Refused.{Refused as WhyRefused}
use Rattle.em_step.specs.Event.{Event}
use Rattle.em_step.specs.declared.event.Answer.{Answer}
use Rattle.em_step.specs.declared.refusal.Refusal.{Refusal}
use Rattle.em_tape.specs.Tape.{Tape}
use Rattle.em_debugger.specs.declared.debugger.Debugger.{Debugger}
use Rattle.em_debugger.specs.declared.why.Such.{Such}
use Rattle.em_debugger.specs.Debugger.{came}
use Rattle.em_debugger.specs.WhyNow.{TellsTried, TellsWhyInterrupt, WouldCome, line_looks, line_said, line_text, step_of, step_text}
use Rattle.em_debugger.specs.WhyNow.{undone_text}
use Rattle.em_debugger.specs.Place.{line_here}
use Rattle.em_debugger.specs.Why.{TellsLook, TellsLooks, TellsWhyAny, TellsWhyDone, TellsWhyHere, TellsWhyLine, TellsWhyOf}
use Rattle.em_debugger.specs.Why.{is_such, is_undone, newest_such, next, over}

pub such_before : (such : Such) (d : Debugger) (line : ℕ) → 0 < line → is_such such (came line d) ≡ false
    → newest_such such d line ≡ newest_such such d (line - 1)
such_before such d zero some none = absurd (omega arith)
such_before such d (suc k) some none =
    let same : k ≡ suc k - 1 = omega arith in
    ap (λ b. cond b (suc k) (newest_such such d k)) none ∙ ap (newest_such such d) same

pub such_here : (such : Such) (d : Debugger) (line : ℕ) → 0 < line → is_such such (came line d) ≡ true
    → newest_such such d line ≡ line
such_here such d zero some is = absurd (omega arith)
such_here such d (suc k) some is = ap (λ b. cond b (suc k) (newest_such such d k)) is

-- a line that came out so is told of
pub why_any : (such : Such) (d : Debugger) (n : ℕ) (text : List ℕ) → (n ≡ 0 → ⊥) → TellsWhyOf d n text
    → TellsWhyAny such d n text
why_any such d zero text some h = absurd (some refl)
why_any such d (suc k) text some h = h

-- nothing was looked at, or this first, and then others
pub no_looks : (d : Debugger) (tape : Tape) (looks : List Look) → length looks < 1 → TellsLooks d tape looks []
no_looks d tape [] less = over
no_looks d tape (look ∷ looks) less = absurd (omega arith)

pub more_looks : (d : Debugger) (tape : Tape) (looks : List Look) (other : Look) (first rest : List ℕ)
    → 1 ≤ length looks → TellsLook d tape (get_or looks 0 other) first → TellsLooks d tape (take (length looks - 1) (drop 1 looks)) rest → TellsLooks d tape looks (first ++ rest)
more_looks d tape [] other first rest some look others = absurd (omega arith)
more_looks d tape (look ∷ looks) other first rest some tells others =
    let all : take (length (look ∷ looks) - 1) looks ≡ looks = take_all (length (look ∷ looks) - 1) looks (omega arith) in
    next look looks first rest tells (subst (λ l. TellsLooks d tape l rest) all others)

-- ---- a step that is tried
-- what it came to on a copy
pub would_come : (v w : View) (e : Event) (came : Result Answer Refusal)
    → IfOk came (λ answer. WasJournalled v e answer w) → IfErr came (λ refusal. Does v (refuses e refusal) w)
    → WouldCome v.present e came
would_come v w e (Ok answer) ok err = (w.present, ok.does.0)
would_come v w e (Err refusal) ok err = err.0

pub idle_text : (why : Why) → ((reason : WhyRefused) → why ≡ Refused reason → ⊥) → undone_text why ≡ codes " would be idle: "
idle_text (RxIdle reason) other = refl
idle_text (TxIdle reason) other = refl
idle_text (Dropped reason) other = refl
idle_text (Refused reason) other = absurd (other reason refl)

-- what was told of a step or of the interrupt line, and of what was looked at behind that
pub tried_told : (d : Debugger) (side : Side) (came : Result Answer Refusal) (why : Option Why) (looks : List Look)
    (text : List ℕ) → IsWhyOf d.tape.session.machine.present (Some (step_of side)) (undone_by came) why
    → looks ≡ why_looks why → TellsLooks d d.tape looks text → TellsTried d side came (step_text side why ++ text)
tried_told d side came why looks text is looked tells =
    record {
      why = why;
      is = is;
      rest = text;
      tells = subst (λ l. TellsLooks d d.tape l text) looked tells;
      said = refl;
    }

pub line_told : (d : Debugger) (looks : List Look) (text : List ℕ) → looks ≡ line_looks → TellsLooks d d.tape looks text
    → TellsWhyInterrupt d (line_said d.tape.session.machine.present ++ text)
line_told d looks text looked tells =
    record { rest = text; tells = subst (λ l. TellsLooks d d.tape l text) looked tells; said = refl }

-- ---- a line of a number
pub line_here_told : (d : Debugger) (line : ℕ) (text : List ℕ) → line ≤ line_here d.tape
    → is_undone (came line d) ≡ true → TellsWhyOf d line text → TellsWhyLine d line text
line_here_told d line text within undone tells =
    let before : nat_lt (line_here d.tape) line ≡ false = grind (arith, nat_tests) in
    subst (λ b. TellsWhyHere b d line text) (sym before)
    (subst (λ b. TellsWhyDone b d line text) (sym undone) tells)

-- ---- whether a number is 0
is_zero : {A : Type 0} (n : ℕ) (x y : A) → n ≡ 0 → cond (n == 0) x y ≡ x
is_zero n x y is = ap (λ m. cond (m == 0) x y) is

no_zero : {A : Type 0} (n : ℕ) (x y : A) → (n ≡ 0 → ⊥) → cond (n == 0) x y ≡ y
no_zero n x y some =
    let test : (n == 0) ≡ false = grind (arith, nat_tests) in
    ap (λ b. cond b x y) test

pub line_without_cause : (icr ims : ℕ) → icr ≡ 0 → line_text icr ims ≡ codes "the interrupt line is down: no cause is set\n"
line_without_cause icr ims none = is_zero icr _ _ none

pub line_masked : (icr ims : ℕ) → (icr ≡ 0 → ⊥) → bit_and icr ims ≡ 0
    → line_text icr ims ≡ codes "the interrupt line is down: IMS lets no cause through that is set\n"
line_masked icr ims some masked = no_zero icr _ _ some ∙ is_zero (bit_and icr ims) _ _ masked

pub line_up : (icr ims : ℕ) → (icr ≡ 0 → ⊥) → (bit_and icr ims ≡ 0 → ⊥)
    → line_text icr ims ≡ codes "the interrupt line is up: IMS lets a cause through that is set\n"
line_up icr ims some through = no_zero icr _ _ some ∙ no_zero (bit_and icr ims) _ _ through
