-- The objects of JSON that answer lines, each on a line.
use Rattle.std.specs.Prelude.{◌≡◌, ◌⊎◌, ℕ, ◌==◌, if◌then◌else◌, List, [], ◌++◌, codes, length}
use Rattle.em_json.specs.Strings.{string_text, strings_text}
use Rattle.em_json.specs.Text.{flag_text, number_text}
use Rattle.em_console.specs.declared.session.Flow.{Flow}
use Rattle.em_console.specs.declared.standing.Became.{Became}
use Rattle.em_console.specs.declared.standing.Became.TheVariants.{Wrong}
use Rattle.em_console.specs.declared.standing.Standing.{Standing}
use Rattle.em_console.specs.Serving.{Answering, Refusing}
use Rattle.em_console.specs.Standing.{word_of}

-- a field that holds a text, behind its name, where there is a text
abbrev pub field_text : List ℕ → List ℕ → List ℕ
field_text name text = if length text == 0 then [] else name ++ string_text text

-- where a session stands, and where the line at its place comes from, up to the end of the object
abbrev pub standing_text : Standing → List ℕ → List ℕ
standing_text standing source =
    number_text (codes ",\"line\":") standing.line
    ++ (number_text (codes ",\"of\":") standing.lines
    ++ (number_text (codes ",\"event\":") standing.event
    ++ (flag_text (codes ",\"ahead\":") standing.is_ahead
    ++ (field_text (codes ",\"source\":") source ++ codes "}\n"))))

-- what became of a line
abbrev pub status_text : Became → List ℕ
status_text became = codes ",\"status\":\"" ++ (word_of became ++ codes "\"")

-- a line that was read, and the lines of its answer
abbrev pub round_text : List ℕ → List ℕ → List ℕ
round_text line plain = codes "{\"command\":" ++ (string_text line ++ (codes ",\"lines\":" ++ strings_text plain))

-- the object that answers a line
abbrev pub answer_text : List ℕ → List ℕ → Became → Standing → List ℕ → List ℕ
answer_text line plain became standing source =
    round_text line plain ++ (status_text became ++ standing_text standing source)

-- the object before the first one: what is said before a line is read, of which script
abbrev pub opening_text : List ℕ → List ℕ → Standing → List ℕ → List ℕ
opening_text script plain standing source =
    codes "{\"format\":\"bunjelav debugger\",\"version\":1"
    ++ (field_text (codes ",\"script\":") script
    ++ ((codes ",\"lines\":" ++ strings_text plain) ++ standing_text standing source))

-- where a session stands, where the line at its place comes from, and, by a line that it answered and where it stood before,
-- what became of that
pub record Place (S : Type 0) : Type 0 where
  pub standing : S → Standing
  pub source : S → List ℕ
  pub became : S → List ℕ → Standing → Became

-- the session answers a line, and the object says so
pub record AnswersBy {S : Type 0} (place : Place S) (answers : Answering S) (before : S) (line text : List ℕ) (flow : Flow)
    (after : S) : Type 0 where
  pub plain : List ℕ
  pub answered : answers before line plain flow after
  pub object : text ≡ answer_text line plain (place.became after line (place.standing before)) (place.standing after)
      (place.source after)

-- it refuses a line that is too long
pub record RefusesBy {S : Type 0} (place : Place S) (refuses : Refusing S) (session : S) (line text : List ℕ) : Type 0 where
  pub plain : List ℕ
  pub refused : refuses session line plain
  pub object : text ≡ answer_text line plain Wrong (place.standing session) (place.source session)

-- memory is refused to its answer, or to the object that says it
abbrev pub StopsBy : {S : Type 0} → Answering S → (S → List ℕ → S → Type 0) → S → List ℕ → S → Type 0
StopsBy answers stops before line after =
    stops before line after ⊎ ((plain : List ℕ) × (flow : Flow) × answers before line plain flow after)
