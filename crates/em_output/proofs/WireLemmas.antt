-- The lines of the frames that were sent, one after another.
use Rattle.std.proofs.Common.{◌≡◌, ◌<◌, ◌≤◌, ◌+◌, ℕ, List, [], ◌++◌, length, get_or, drop, Some, ap, ◌∙◌}
use Rattle.std.specs.Prelude.{slice_get}
use Rattle.std.proofs.lemmas.List.{drop_more, drop_all}
use Rattle.std.proofs.lemmas.Option.{slice_get-get_or}
use Rattle.em_text.specs.Writer.{hex_line_text}
use Rattle.em_output.specs.Wire.{frames_text}

-- the frame of an index, and those behind it
pub frames_text-next : (frames : List (List ℕ)) (i : ℕ) (frame : List ℕ) → i < length frames
    → Some frame ≡ slice_get frames i
    → frames_text (drop i frames) ≡ hex_line_text frame ++ frames_text (drop (i + 1) frames)
frames_text-next frames i frame lt e =
    let got = e ∙ slice_get-get_or frames i [] lt in
    let same : get_or frames i [] ≡ frame = cc in
    ap frames_text (drop_more frames i [] lt) ∙ ap (λ f. hex_line_text f ++ frames_text (drop (i + 1) frames)) same

-- no frame
pub frames_text-none : (frames : List (List ℕ)) (i : ℕ) → length frames ≤ i → frames_text (drop i frames) ≡ []
frames_text-none frames i le = ap frames_text (drop_all i frames le)
