-- What begins with lines that were added begins with their text.
use Rattle.std.proofs.Common.{◌≡◌, ◌∙◌, ℕ, Bool, true, false, List, Result, Ok, Err, sym, ap, subst}
use Rattle.std.specs.Prelude.{IfErr, IfOk, OnErr, OnOk}
use Rattle.em_text.specs.Lines.{lines_of}
use Rattle.em_script.specs.declared.fault.BenchFault.{BenchFault}
use Rattle.em_debugger.specs.declared.debugger.Debugger.{Debugger}
use Rattle.em_debugger.specs.declared.files.Added.{Added}
use Rattle.em_debugger.specs.Files.{AddsLines, AddsSome, BeginsAdded, BeginsText, IsUnadded, added_of, loaded_text, loads, plays, stops, unplayed}

pub begins_text : (step : Bool) (added : Result Added BenchFault) (old between new : Debugger) (script text : List ℕ)
    → OnOk added (AddsLines old between (lines_of script)) → OnErr added (AddsSome old between (lines_of script))
    → IfOk added (λ a. a ≡ added_of old.settings.profile (lines_of script)) → IfErr added IsUnadded → BeginsAdded step added between new text
    → BeginsText step old new script text
begins_text true (Ok a) old between new script text all some are why h =
    loads (subst (λ d. AddsLines old d (lines_of script)) (sym h.0) all)
    (h.1 ∙ ap (λ (x : Added). loaded_text x.lines) are)
begins_text false (Ok a) old between new script text all some are why h = plays between all h
begins_text true (Err fault) old between new script text all some are why h =
    stops fault why h.1 (subst (λ d. AddsSome old d (lines_of script)) (sym h.0) some)
begins_text false (Err fault) old between new script text all some are why h =
    unplayed fault why h.1 (subst (λ d. AddsSome old d (lines_of script)) (sym h.0) some)
