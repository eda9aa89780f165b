-- The text of events that were taken back.
use Rattle.std.proofs.Common.{◌≡◌, ℕ, ◌-◌, ◌<◌, ◌++◌, ltb, List, Option, Result, length, true, subst, sym, ap, ◌∙◌}
use Rattle.std.specs.Prelude.{min}
use Rattle.em_text.specs.Writer.{Writes}
use Rattle.em_trail.specs.declared.note.Note.{Note}
use Rattle.em_named.specs.declared.did.Did.{Did}
use Rattle.em_tape.specs.Tape.{Tape, event_at, event_of}
use Rattle.em_debugger.specs.Moves.{back_text, budget_text, taken, taken_text, Goes, IsBehind}
use Rattle.em_debugger.proofs.TextLaws.{Writes-some}

-- what is said of the events that were taken, and of why they are no more
abbrev pub more_text : List (List ℕ) → Tape → ℕ → ℕ → ℕ → Option Note → ℕ → List ℕ
more_text marks now most n last note newest = taken_text marks now n last note ++ budget_text (ltb n most) newest

-- by what is known of them
pub Writes-back : {T E : Type 0} (old new : Option (List ℕ)) (result : Result T E) (marks : List (List ℕ)) (now tape : Tape)
    (most n last newest : ℕ) (note : Option Note) → n ≡ taken most tape → last ≡ event_at (taken most tape - 1) tape
    → newest ≡ event_of now → 0 < event_of tape
    → Writes old new result (more_text marks now most n last note newest)
    → Writes old new result (back_text marks most tape now note)
Writes-back old new result marks now tape most n last newest note p q r some h =
    Writes-some old new result (event_of tape) _ _ some
    (subst (λ x. Writes old new result (more_text marks now most (taken most tape) x note (event_of now))) q
    (subst (λ x. Writes old new result (more_text marks now most (taken most tape) last note x)) r
    (subst (λ x. Writes old new result (more_text marks now most x last note newest)) p h)))

-- before a line
pub goes_behind : (old new : Tape) (before lines : ℕ) → lines ≡ before
    → new ≡ record old { whole = min lines (length old.did); back = 0; session = new.session }
    → Goes (IsBehind before) old new true
goes_behind old new before lines same is =
    let whole : new.whole ≡ min lines (length old.did) = ap (λ (t : Tape). t.whole) is in
    let back : new.back ≡ 0 = ap (λ (t : Tape). t.back) is in
    let did : old.did ≡ new.did = sym (ap (λ (t : Tape). t.did) is) in (
      is ∙ ap (λ (k : ℕ). record old { whole = k; back = 0; session = new.session }) (sym whole)
          ∙ ap (λ (k : ℕ). record old { whole = new.whole; back = k; session = new.session }) (sym back),
      record {
        whole = whole ∙ ap (λ (k : ℕ). min k (length old.did)) same
            ∙ ap (λ (ds : List Did). min before (length ds)) did;
        back = back;
      },
    )
