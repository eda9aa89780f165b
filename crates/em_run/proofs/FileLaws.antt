-- The text that is kept of a run, from its first line on.
use Rattle.std.proofs.Common.{◌≡◌, ℕ, ◌^◌, ◌<◌, List, [], ◌∷◌, ◌++◌, refl, sym, ap, ◌∙◌, append-nil, subst}
use Rattle.std.specs.List.{flat_map}
use Rattle.std.proofs.lemmas.Grind.{flat_map-append}
use Rattle.em_eeprom.specs.Eeprom.{IsEeprom}
use Rattle.em_text.specs.Lines.{lines_of}
use Rattle.em_journal.specs.History.{Leads}
use Rattle.em_journal.specs.View.{View, opening}
use Rattle.em_regs.specs.declared.profile.Profile.{Profile}
use Rattle.em_step.specs.Cells.{fresh_as, shows}
use Rattle.em_script.specs.Session.{Session, bare}
use Rattle.em_kept.specs.Kept as kept
use Rattle.em_kept.specs.Kept.{event_line, refused_line, event_text, refused_text}
use Rattle.em_kept.specs.Head.{head_lines}
use Rattle.em_kept.specs.ReadBack.{AreSilent}
use Rattle.em_kept.proofs.HeadLaws.{head_made, head_silent, silent_whole}
use Rattle.em_kept.proofs.LineLaws.{text_lines}
use Rattle.em_run.specs.KeptRun.{AreTyped, Kept, PlaysTheSame, calls_of_run, file_text, text_of}
use Rattle.em_run.specs.KeptRun.{performed, refused, went_back}
use Rattle.em_run.proofs.PlayLaws.{Plays, join, nothing, passed}
use Rattle.em_run.proofs.RunLaws.{lines_of_kept, lines_of_run, run_plays, run_whole, whole_append}

-- ---- the text, by its lines

kept_made : (k : Kept) → text_of k ≡ flat_map kept.text_of (lines_of_kept k)
kept_made (performed e answer source) = sym (append-nil (event_text e answer source))
kept_made (refused e refusal source) = sym (append-nil (refused_text e refusal source))
kept_made (went_back asked taken source) = refl

run_made : (run : List Kept) → flat_map text_of run ≡ flat_map kept.text_of (lines_of_run run)
run_made [] = refl
run_made (k ∷ run) =
    ap (λ l. l ++ flat_map text_of run) (kept_made k)
    ∙ ap (λ l. flat_map kept.text_of (lines_of_kept k) ++ l) (run_made run)
    ∙ sym (flat_map-append kept.text_of (lines_of_kept k) (lines_of_run run))

silent_plays : (lines : List (List ℕ)) (s : Session) → AreSilent lines → Plays lines s s
silent_plays [] s h = nothing s
silent_plays (line ∷ lines) s h = join (line ∷ []) lines s s s (passed line s h.0) (silent_plays lines s h.1)

pub file_plays : (run : List Kept) (profile : Profile) (base memory budget : ℕ) (words : List ℕ) (w : View) → AreTyped run
    → memory < 2 ^ 64 → budget < 2 ^ 64 → IsEeprom words
    → Leads budget (shows (fresh_as profile base memory words)) (calls_of_run run) w
    → PlaysTheSame (lines_of (file_text profile base memory budget words run))
    (opening budget (shows (fresh_as profile base memory words))) w
file_plays run profile base memory budget words w h m b is leads =
    let v = opening budget (shows (fresh_as profile base memory words)) in
    let head = head_lines profile base memory budget words in
    let silent = head_silent profile base memory budget words m b is in
    let all = head ++ lines_of_run run in
    let made : file_text profile base memory budget words run ≡ flat_map kept.text_of all =
    ap (λ l. l ++ flat_map text_of run) (head_made profile base memory budget words)
    ∙ ap (λ l. flat_map kept.text_of head ++ l) (run_made run) ∙ sym (flat_map-append kept.text_of head (lines_of_run run)) in
    let lines : lines_of (file_text profile base memory budget words run) ≡ all =
    ap lines_of made ∙ text_lines all (whole_append head (lines_of_run run) (silent_whole head silent) (run_whole run h)) in
    let plays =
    join head (lines_of_run run) (bare v) (bare v) (bare w) (silent_plays head (bare v) silent) (run_plays run v w h leads) in
    subst (λ l. PlaysTheSame l v w) (sym lines) (record { machine = plays.leads; answers = plays.prints 1 })
