-- Steps that engines make by themselves, one after another.
use Rattle.std.proofs.Common.{ℕ, ◌<◌, List, [], ◌++◌, length, append_assoc, Option, Result, Ok, Err, refl, sym, subst}
use Rattle.std.specs.Prelude.{OnOk}
use Rattle.std.specs.Io.KnownBytes.{Appends}
use Rattle.em_text.specs.Writer.{Writes}
use Rattle.em_text.proofs.WritingLemmas.{Appends-more, Appends-same}
use Rattle.em_debugger.specs.declared.debugger.Debugger.{Debugger}
use Rattle.em_debugger.specs.declared.performing.Performed.{Performed}
use Rattle.em_debugger.specs.Performing.{PerformsNext, ShowsPerformed, ShowsSteps, step}

-- some were shown: whatever is shown behind them is shown behind the first line
pub record ShowedSo (first : ℕ) (old : Debugger) (lines : ℕ) (now : Debugger) (before after : Option (List ℕ))
    : Type 0 where
  pub text : List ℕ
  pub written : Appends before after text
  pub behind : (new : Debugger) (rest : List ℕ) → ShowsSteps lines now new rest → ShowsSteps first old new (text ++ rest)

pub ShowedSo-none : (lines : ℕ) (d : Debugger) (text : Option (List ℕ)) → ShowedSo lines d lines d text text
ShowedSo-none lines d text =
    record { text = []; written = Appends-same text; behind = λ new rest h. h }

-- one step more
pub ShowedSo-more : (first lines : ℕ) (old now next : Debugger) (before after later : Option (List ℕ)) (p : Performed)
    (one : List ℕ) → ShowedSo first old lines now before after → lines < length now.tape.lines
    → PerformsNext now next p → ShowsPerformed next p one → Appends after later one
    → ShowedSo first old (length now.tape.lines) next before later
ShowedSo-more first lines old now next before after later p one h more performs shows written = record {
  text = h.text ++ one;
  written = Appends-more before after later h.text one _ h.written written refl;
  behind = λ new rest steps. subst (λ l. ShowsSteps first old new l) (sym (append_assoc h.text one rest))
      (h.behind new (one ++ rest) (step lines now next new p one rest more performs shows steps));
}

-- and then comes the last
pub ShowedSo-end : {T E : Type 0} (first lines : ℕ) (old now new : Debugger) (before after later : Option (List ℕ))
    (result : Result T E) (rest : List ℕ) → ShowedSo first old lines now before after
    → Writes after later result rest → ShowsSteps lines now new rest
    → OnOk result ((text : List ℕ) × Appends before later text × ShowsSteps first old new text)
ShowedSo-end first lines old now new before after later (Ok x) rest h written steps =
    (h.text ++ rest, Appends-more before after later h.text rest _ h.written written refl, h.behind new rest steps)
ShowedSo-end first lines old now new before after later (Err x) rest h written steps = tt

-- or nothing more
pub ShowedSo-over : (first lines : ℕ) (old now new : Debugger) (before after : Option (List ℕ))
    → ShowedSo first old lines now before after → ShowsSteps lines now new []
    → (text : List ℕ) × Appends before after text × ShowsSteps first old new text
ShowedSo-over first lines old now new before after h steps =
    (h.text ++ [], Appends-more before after after h.text [] _ h.written (Appends-same after) refl, h.behind new [] steps)
