-- Objects, field by field, and whose answers they are.
use Rattle.std.proofs.Common.{◌≡◌, ◌∙◌, ℕ, List, ◌++◌, Option, Result, Ok, Err, ap, refl}
use Rattle.std.specs.Prelude.{OnOk}
use Rattle.std.specs.Io.KnownBytes.{Appends}
use Rattle.em_text.proofs.WritingLemmas.{Appends-more}
use Rattle.em_console.specs.declared.session.Flow.{Flow}
use Rattle.em_console.specs.declared.standing.Became.{Became}
use Rattle.em_console.specs.declared.standing.Became.TheVariants.{Wrong}
use Rattle.em_console.specs.declared.standing.Standing.{Standing}
use Rattle.em_console.specs.Serving.{Answering, Refusing}
use Rattle.em_console.specs.Objects.{AnswersBy, Place, RefusesBy, answer_text}

-- a front was written, and then the rest
pub OnOk-onto : {T E : Type 0} (old between new : Option (List ℕ)) (result : Result T E) (front rest all : List ℕ)
    → Appends old between front → OnOk result (Appends between new rest) → all ≡ front ++ rest
    → OnOk result (Appends old new all)
OnOk-onto old between new (Ok x) front rest all first then is = Appends-more old between new front rest all first then is
OnOk-onto old between new (Err x) front rest all first then is = tt

-- the object of these is the object of what they are
same_object : (line : List ℕ) (plain-0 plain-1 : List ℕ) (became-0 became-1 : Became) (standing-0 standing-1 : Standing)
    (source-0 source-1 : List ℕ) → plain-0 ≡ plain-1 → became-0 ≡ became-1 → standing-0 ≡ standing-1 → source-0 ≡ source-1
    → answer_text line plain-0 became-0 standing-0 source-0 ≡ answer_text line plain-1 became-1 standing-1 source-1
same_object line plain-0 plain-1 became-0 became-1 standing-0 standing-1 source-0 source-1 plain became standing source =
    ap (λ (p : List ℕ). answer_text line p became-0 standing-0 source-0) plain
    ∙ ap (λ (b : Became). answer_text line plain-1 b standing-0 source-0) became
    ∙ ap (λ (s : Standing). answer_text line plain-1 became-1 s source-0) standing
    ∙ ap (λ (s : List ℕ). answer_text line plain-1 became-1 standing-1 s) source

-- a session answered a line, and the object says so
pub answered_by : {S : Type 0} (place : Place S) (answers : Answering S) (before after : S) (line plain passed_on text : List ℕ)
    (flow : Flow) (stood standing : Standing) (became : Became) (source : List ℕ) → answers before line plain flow after
    → passed_on ≡ plain → stood ≡ place.standing before → became ≡ place.became after line stood
    → standing ≡ place.standing after → source ≡ place.source after → text ≡ answer_text line passed_on became standing source
    → AnswersBy place answers before line text flow after
answered_by place answers before after line plain passed_on text flow stood standing became source answered same was led stands comes is =
    record {
      plain = plain;
      answered = answered;
      object = is ∙ same_object line passed_on plain became _ standing _ source _ same
          (led ∙ ap (λ (s : Standing). place.became after line s) was) stands comes;
    }

-- it refused one that is too long
pub refused_by : {S T E : Type 0} (place : Place S) (refuses : Refusing S) (session : S) (result : Result T E)
    (line plain passed_on text : List ℕ) (standing : Standing) (source : List ℕ) → refuses session line plain
    → passed_on ≡ plain → standing ≡ place.standing session → source ≡ place.source session
    → OnOk result (text ≡ answer_text line passed_on Wrong standing source)
    → OnOk result (RefusesBy place refuses session line text)
refused_by place refuses session (Ok x) line plain passed_on text standing source refused same stands comes is =
    record {
      plain = plain;
      refused = refused;
      object = is ∙ same_object line passed_on plain Wrong Wrong standing _ source _ same refl stands comes;
    }
refused_by place refuses session (Err x) line plain passed_on text standing source refused same stands comes is = tt
