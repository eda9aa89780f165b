-- What is answered to a line that asks for no file.
use Rattle.std.proofs.Common.{List, ℕ, Option, Result, refl}
use Rattle.std.specs.Prelude.{OnOk, None}
use Rattle.std.specs.Io.KnownBytes.{Appends}
use Rattle.em_prompt.specs.Typed.{Typed, show}
use Rattle.em_prompt.specs.declared.typed.Shown.{Shown}
use Rattle.em_debugger.specs.declared.debugger.Debugger.{Debugger}
use Rattle.em_debugger.specs.Answering.{Obeys, ObeysAlone, Shows}
use Rattle.em_debugger.specs.Disk.{Deed}
use Rattle.em_debugger.proofs.TextLaws.{OnOk-told}

-- what is shown is what the line is answered, and nothing is done at the disk
pub shown : (did : Option Deed → Type 0) (d : Debugger) (what : Shown) {T E : Type 0} (old new : Option (List ℕ))
    (result : Result T E) → did None → OnOk result ((t : List ℕ) × Appends old new t × Shows d what t)
    → OnOk result ((t : List ℕ) × Appends old new t × Obeys did d d (show what) t)
shown did d what old new result still h =
    OnOk-told old new result (Shows d what) (Obeys did d d (show what)) (λ t told. (still, (refl, told))) h

-- and so is what a line does, where nothing is done at the disk
pub alone : (did : Option Deed → Type 0) (before after : Debugger) (typed : Typed) {T E : Type 0}
    (old new : Option (List ℕ)) (result : Result T E) → did None
    → ((t : List ℕ) → did None × ObeysAlone before after typed t → Obeys did before after typed t)
    → OnOk result ((t : List ℕ) × Appends old new t × ObeysAlone before after typed t)
    → OnOk result ((t : List ℕ) × Appends old new t × Obeys did before after typed t)
alone did before after typed old new result still so h =
    OnOk-told old new result (ObeysAlone before after typed) (Obeys did before after typed) (λ t p. so t (still, p)) h
