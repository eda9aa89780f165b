-- Frames that are offered, as lines of a script.
use Rattle.std.proofs.Common.{◌∙◌, ℕ, ◌+◌, ◌<◌, Bool, List, [], ◌∷◌, ◌++◌, length, take, append-nil, Option, ap}
use Rattle.std.specs.Prelude.{slice_get, unwrap_or}
use Rattle.std.specs.Io.KnownBytes.{Appends}
use Rattle.std.proofs.lemmas.List.Concat.{flat_map-append}
use Rattle.em_tape.proofs.TapeLaws.{take-more}
use Rattle.em_text.proofs.WritingLemmas.{Appends-more}
use Rattle.em_debugger.specs.Offers.{offered_line, offered_script}
use Rattle.em_debugger.proofs.FilesLaws.{text_there}

-- so many lines were written, and the next one
pub wrote_offered : (has_engines : Bool) (lines : List (List ℕ)) (k : ℕ) (old now next : Option (List ℕ))
    → k < length lines → Appends old now (offered_script has_engines (take k lines))
    → Appends now next (offered_line has_engines (unwrap_or (slice_get lines k) []))
    → Appends old next (offered_script has_engines (take (k + 1) lines))
wrote_offered has_engines lines k old now next within front one =
    let line = unwrap_or (slice_get lines k) [] in
    Appends-more old now next (offered_script has_engines (take k lines)) (offered_line has_engines line) _ front one
    (ap (offered_script has_engines) (take-more k lines line (text_there lines k within))
    ∙ flat_map-append (offered_line has_engines) (take k lines) (line ∷ [])
    ∙ ap (λ l. offered_script has_engines (take k lines) ++ l) (append-nil (offered_line has_engines line)))
