-- A line that is typed, and what is answered.
use Rattle.std.proofs.Common.{◌≡◌, ℕ, Bool, false, List, Option, Result, sym, subst}
use Rattle.std.specs.Prelude.{OnOk}
use Rattle.std.specs.Io.KnownBytes.{Appends}
use Rattle.em_prompt.specs.BenchLine.{BenchLine, text_of}
use Rattle.em_debugger.specs.declared.debugger.Debugger.{Debugger}
use Rattle.em_debugger.specs.Performing.{AnswersLine, AnswersNew, AnswersTyped, looks_back}
use Rattle.em_debugger.proofs.TextLaws.{OnOk-told}

by_case : (old new : Debugger) (line : BenchLine) (given text : List ℕ) (looks : Bool) → looks ≡ false
    → AnswersNew old new (text_of line) given text → AnswersLine looks old new line given text
by_case old new line given text looks is h = subst (λ b. AnswersLine b old new line given text) (sym is) h

-- a line that is put behind the place
pub answered_line : {T E : Type 0} (before after : Option (List ℕ)) (result : Result T E) (old new : Debugger)
    (line : BenchLine) (said given : List ℕ) → looks_back old.tape line ≡ false → said ≡ text_of line
    → OnOk result ((t : List ℕ) × Appends before after t × AnswersNew old new said given t)
    → OnOk result ((t : List ℕ) × Appends before after t × AnswersTyped old new line given t)
answered_line before after result old new line said given is same h =
    OnOk-told before after result (AnswersNew old new said given) (AnswersTyped old new line given)
    (λ t answers. by_case old new line given t (looks_back old.tape line) is
    (subst (λ l. AnswersNew old new l given t) same answers)) h
