-- Lines that are performed and shown, one after another.
use Rattle.std.proofs.Common.{◌≡◌, ℕ, ◌+◌, ◌≤◌, List, [], ◌∷◌, ◌++◌, length, Option, Result, Ok, Err, refl, sym, ap}
use Rattle.std.proofs.Common.{◌∙◌, subst, append-nil, arith}
use Rattle.std.specs.Prelude.{OnOk}
use Rattle.std.specs.Io.KnownBytes.{Appends}
use Rattle.std.proofs.lemmas.List.{length_push}
use Rattle.std.proofs.lemmas.List.Concat.{flat_map-append}
use Rattle.em_console.specs.Turns.{Leads}
use Rattle.em_console.proofs.ServingLaws.{Leads-append}
use Rattle.em_text.specs.Writer.{Writes}
use Rattle.em_text.proofs.WritingLemmas.{Appends-more, Appends-same}
use Rattle.em_debugger.specs.declared.debugger.Debugger.{Debugger}
use Rattle.em_debugger.specs.declared.performing.Performed.{Performed}
use Rattle.em_debugger.specs.Performing.{PerformsNext, ShowsPerformed, ShowsSteps}
use Rattle.em_debugger.specs.Next.{Shown, Shows, EndsBy, TellsNext, shown_text}

-- lines were performed and told, each by such a step
pub record ToldBy (Step : Debugger → Shown → Debugger → Type 0) (first now : Debugger) (old new : Option (List ℕ))
    : Type 0 where
  pub shown : List Shown
  pub leads : Leads Step shown first now
  pub written : Appends old new (shown_text shown)

pub ToldBy-none : (Step : Debugger → Shown → Debugger → Type 0) (d : Debugger) (old : Option (List ℕ))
    → ToldBy Step d d old old
ToldBy-none Step d old = record { shown = []; leads = refl; written = Appends-same old }

-- one line more
pub ToldBy-more : (Step : Debugger → Shown → Debugger → Type 0) (first now next : Debugger)
    (old new later : Option (List ℕ)) (one : Shown) → ToldBy Step first now old new → Step now one next
    → Appends new later one.text → ToldBy Step first next old later
ToldBy-more Step first now next old new later one h step written = record {
  shown = h.shown ++ one ∷ [];
  leads = Leads-append Step h.shown (one ∷ []) first now next h.leads (next, step, refl);
  written = Appends-more old new later (shown_text h.shown) one.text _ h.written written
      (flat_map-append (λ (s : Shown). s.text) h.shown (one ∷ [])
      ∙ ap (λ l. shown_text h.shown ++ l) (append-nil one.text));
}

-- so many lines were performed and shown
pub record ShowsSo (first now : Debugger) (old new : Option (List ℕ)) (count : ℕ) : Type 0 where
  pub told : ToldBy Shows first now old new
  pub long : length told.shown ≡ count

pub ShowsSo-none : (d : Debugger) (old : Option (List ℕ)) → ShowsSo d d old old 0
unfolding ToldBy-none
ShowsSo-none d old = record { told = ToldBy-none Shows d old; long = refl }

-- one line more
pub ShowsSo-more : (first now between next : Debugger) (old new middle later : Option (List ℕ)) (count : ℕ)
    (p : Performed) (one rest : List ℕ) → ShowsSo first now old new count → PerformsNext now between p
    → ShowsPerformed between p one → Appends new middle one → ShowsSteps (length now.tape.lines) between next rest
    → Appends middle later rest → ShowsSo first next old later (count + 1)
unfolding ToldBy-more
ShowsSo-more first now between next old new middle later count p one rest h performs shows written steps then =
    let all : Shown = record { performed = p; text = one ++ rest } in
    let step : Shows now all next = record {
      between = between;
      performs = performs;
      first = one;
      text = shows;
      rest = rest;
      steps = steps;
      both = refl;
    } in
    record {
      told = ToldBy-more Shows first now next old new later all h.told step
          (Appends-more new middle later one rest _ written then refl);
      long = length_push h.told.shown all ∙ ap (λ n. n + 1) h.long;
    }

-- what came then
pub TellsNext-end : (asked count : ℕ) (first now last : Debugger) (old new later : Option (List ℕ)) (end : List ℕ)
    → ShowsSo first now old new count → count ≤ asked → Appends new later end → EndsBy asked count now last end
    → (text : List ℕ) × Appends old later text × TellsNext asked first last text
TellsNext-end asked count first now last old new later end h few written ended = (
  shown_text h.told.shown ++ end,
  Appends-more old new later (shown_text h.told.shown) end _ h.told.written written refl,
  record {
    shown = h.told.shown;
    few = omega (arith, h.long);
    between = now;
    leads = h.told.leads;
    end = end;
    ended = subst (λ n. EndsBy asked n now last end) (sym h.long) ended;
    told = refl;
  },
)

-- the same, where what came then was written whole if at all
pub TellsNext-written : (asked count : ℕ) (first now last : Debugger) (old new later : Option (List ℕ))
    (end : List ℕ) {T E : Type 0} (result : Result T E) → ShowsSo first now old new count → count ≤ asked
    → Writes new later result end → EndsBy asked count now last end
    → OnOk result ((text : List ℕ) × Appends old later text × TellsNext asked first last text)
TellsNext-written asked count first now last old new later end (Ok x) h few written ended =
    TellsNext-end asked count first now last old new later end h few written ended
TellsNext-written asked count first now last old new later end (Err x) h few written ended = tt
