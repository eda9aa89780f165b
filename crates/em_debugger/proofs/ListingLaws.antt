-- Lines that are listed.
use Rattle.std.proofs.Common.{◌≡◌, ◌∙◌, ℕ, List, [], ◌∷◌, ◌++◌, length, append-nil, append_assoc}
use Rattle.std.proofs.Common.{Option, Result, Ok, Err, refl, sym, ap, subst}
use Rattle.std.specs.Prelude.{OnOk, codes, replicate}
use Rattle.std.specs.Io.KnownBytes.{Appends}
use Rattle.std.proofs.lemmas.List.Concat.{flat_map-append}
use Rattle.em_text.specs.Lines.{lines_of}
use Rattle.em_text.specs.Writer.{Writes}
use Rattle.em_text.proofs.WritingLemmas.{Appends-more, Appends-same}
use Rattle.em_debugger.specs.declared.debugger.Debugger.{Debugger}
use Rattle.em_debugger.specs.Listing.{ListingEnds, Lists, ListsNext, below_text, beside_text, listed_text, numbered_text}
use Rattle.em_debugger.specs.Next.{shown_text}
use Rattle.em_debugger.proofs.FilesLaws.{none_left}
use Rattle.em_debugger.proofs.NextLaws.{ToldBy}

-- the lines of an answer were written as far as this rest of it
pub record WroteBelow (old new : Option (List ℕ)) (answer rest : List ℕ) : Type 0 where
  pub lines : List (List ℕ)
  pub all : lines_of answer ≡ lines ++ lines_of rest
  pub written : Appends old new (below_text lines)

pub WroteBelow-none : (old : Option (List ℕ)) (answer : List ℕ) → WroteBelow old old answer answer
WroteBelow-none old answer = record { lines = []; all = refl; written = Appends-same old }

-- one line more
pub WroteBelow-more : (old new later : Option (List ℕ)) (answer rest line behind : List ℕ)
    → WroteBelow old new answer rest → lines_of rest ≡ line ∷ lines_of behind
    → Appends new later (replicate 53 32 ++ (line ++ codes "\n")) → WroteBelow old later answer behind
WroteBelow-more old new later answer rest line behind h is written =
    let text = replicate 53 32 ++ (line ++ codes "\n") in
    record {
      lines = h.lines ++ line ∷ [];
      all = h.all ∙ ap (λ l. h.lines ++ l) is ∙ sym (append_assoc h.lines (line ∷ []) (lines_of behind));
      written = Appends-more old new later (below_text h.lines) text _ h.written written
          (flat_map-append (λ (l : List ℕ). replicate 53 32 ++ (l ++ codes "\n")) h.lines (line ∷ [])
          ∙ ap (λ l. below_text h.lines ++ l) (append-nil text));
    }

-- all were, where nothing is left
pub WroteBelow-all : (old new : Option (List ℕ)) (answer rest : List ℕ) → WroteBelow old new answer rest
    → length rest ≡ 0 → Appends old new (below_text (lines_of answer))
WroteBelow-all old new answer rest h none =
    let all : h.lines ≡ lines_of answer =
    sym (h.all ∙ ap (λ l. h.lines ++ l) (none_left rest none) ∙ append-nil h.lines) in
    subst (λ l. Appends old new (below_text l)) all h.written

-- and then it is told how the listing ends
pub Lists-end : {T E : Type 0} (first now last : Debugger) (old new later : Option (List ℕ)) (result : Result T E)
    (end : List ℕ) → ToldBy ListsNext first now old new → Writes new later result end → ListingEnds now last end
    → OnOk result ((text : List ℕ) × Appends old later text × Lists first last text)
Lists-end first now last old new later (Ok x) end h written ended = (
  shown_text h.shown ++ end,
  Appends-more old new later (shown_text h.shown) end _ h.written written refl,
  record { shown = h.shown; between = now; leads = h.leads; end = end; ended = ended; told = refl },
)
Lists-end first now last old new later (Err x) end h written ended = tt

-- a line without an answer was written
pub listed-none : {T E : Type 0} (old between new : Option (List ℕ)) (result : Result T E) (number : ℕ)
    (line answer : List ℕ) → length answer ≡ 0 → Appends old between (numbered_text number line)
    → Writes between new result (codes "\n") → OnOk result (Appends old new (listed_text number line (lines_of answer)))
listed-none old between new (Ok x) number line answer none front end =
    subst (λ l. Appends old new (listed_text number line l)) (sym (none_left answer none))
    (Appends-more old between new (numbered_text number line) (codes "\n") _ front end refl)
listed-none old between new (Err x) number line answer none front end = tt

-- a line with an answer was
pub listed-all : {T E : Type 0} (old between new : Option (List ℕ)) (result : Result T E) (number : ℕ)
    (line first others answer : List ℕ) → lines_of answer ≡ first ∷ lines_of others
    → Appends old between (beside_text number line first)
    → OnOk result (Appends between new (below_text (lines_of others)))
    → OnOk result (Appends old new (listed_text number line (lines_of answer)))
listed-all old between new (Ok x) number line first others answer is front below =
    subst (λ l. Appends old new (listed_text number line l)) (sym is)
    (Appends-more old between new (beside_text number line first) (below_text (lines_of others)) _ front below refl)
listed-all old between new (Err x) number line first others answer is front below = tt

-- where no line lies ahead any more, nothing more is said
pub Lists-over : (first now last : Debugger) (old new : Option (List ℕ)) → ToldBy ListsNext first now old new
    → ListingEnds now last [] → (text : List ℕ) × Appends old new text × Lists first last text
Lists-over first now last old new h ended = (
  shown_text h.shown ++ [],
  Appends-more old new new (shown_text h.shown) [] _ h.written (Appends-same new) refl,
  record { shown = h.shown; between = now; leads = h.leads; end = []; ended = ended; told = refl },
)
