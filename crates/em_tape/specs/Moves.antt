-- What calls make of a tape.
use Rattle.std.specs.Prelude.{◌≡◌, ◌⊎◌, ℕ, ◌+◌, ◌-◌, ◌<◌, ◌≤◌, ◌&&◌, nat_eq, Bool, false, if◌then◌else◌, List, [], ◌∷◌, ◌++◌, All}
use Rattle.std.specs.Prelude.{length, take, drop, slice_get, is_ok, Option, Some, None, Result, Ok}
use Rattle.em_text.specs.declared.writer.WriteFailed.{WriteFailed}
use Rattle.em_line.specs.Grammar.{parsed_line}
use Rattle.em_script.specs.declared.outcome.Outcome.{Outcome}
use Rattle.em_script.specs.declared.outcome.Outcome.TheVariants.{Done}
use Rattle.em_script.specs.Session.{Session}
use Rattle.em_script.specs.Reply.{Performs}
use Rattle.em_named.specs.declared.did.Did.{Did}
use Rattle.em_named.specs.declared.did.Did.TheVariants.{Performed, TookBack}
use Rattle.em_named.specs.Names.{names}
use Rattle.em_named.specs.Numbers.{performed_by}
use Rattle.em_named.specs.declared.place.Place.{Place}
use Rattle.em_script.specs.Did.{did_of}
use Rattle.em_tape.specs.Kind.{LeavesDriver, SaysBack, SaysOfDriver}
use Rattle.em_tape.specs.Known.{Does}
use Rattle.em_tape.specs.declared.playing.Played.{Played}
use Rattle.em_tape.specs.Tape.{Tape, IsAt, line_here, standing}

-- ---- the next line

abbrev pub same_did : Did → Did → Bool
same_did (Performed k) (Performed n) = nat_eq k n
same_did (TookBack k) (TookBack n) = nat_eq k n
same_did _ _ = false

-- the list has this there
abbrev pub has_at : Option Did → Did → Bool
has_at None d = false
has_at (Some one) d = same_did one d

-- once line k + 1 was performed and did this: where it did something else before, no more is known of those behind it
abbrev pub noted : ℕ → Did → List Did → List Did
noted k d did = if has_at (slice_get did k) d then did else take k did ++ d ∷ []

-- the next line was performed behind what the whole lines leave, its text was printed, and what it did was noted
pub record Plays (old new : Tape) (text text' : Option (List ℕ)) (replied : Result Outcome WriteFailed)
    : Type 0 where
  pub line : List ℕ
  pub next : slice_get old.lines old.whole ≡ Some line
  pub before : Session
  pub place : IsAt old.first (take old.whole old.lines) 0 before
  pub here : old.back ≡ 0 → before ≡ old.session
  pub performs : Performs (old.whole + 1) (parsed_line line) before new.session text text' replied
  -- where the answer could not be written, it is not known what the line did
  pub did : Did
  pub does : is_ok replied ≡ false ⊎ (did ≡ did_of performs.memory (parsed_line line) before)
  pub tape : new ≡ record old {
    did = noted old.whole did old.did;
    answered = old.answered && is_ok replied;
    whole = old.whole + 1;
    back = 0;
    session = new.session;
  }

-- a line was played, and this is noted and known of it
pub record IsPlayed (number : ℕ) (line : List ℕ) (old new : Session) (text text' : Option (List ℕ)) (played : Played)
    : Type 0 where
  pub performs : Performs number (parsed_line line) old new text text' played.replied
  pub did : is_ok played.replied ≡ false ⊎ (played.did ≡ did_of performs.memory (parsed_line line) old)
  pub few : performed_by played.did ≤ 0x2_0000_0000
  pub known : Does played.known (parsed_line line) old new

-- nothing changed, or the events that were taken back were performed again
abbrev pub Leaves : Tape → Tape → Type 0
Leaves old new = (new ≡ old) ⊎ (new ≡ record old { back = 0; session = new.session })

-- ---- lines ahead that are dropped

-- the same events stand behind fewer lines; the lines that are left out leave a driver and its plan, and the last that stays
-- is that of the place, or says something of a driver
pub record IsCutPlace (tape : Tape) (place : Place) : Type 0 where
  pub whole : tape.back ≡ 0 → place ≡ record { whole = tape.whole; back = 0 }
  pub within : place.whole ≤ tape.whole
  pub least : line_here tape ≤ place.whole
  pub most : line_here tape < place.whole → (last : List ℕ) × (slice_get tape.lines (place.whole - 1) ≡ Some last)
      × SaysOfDriver (parsed_line last)
  pub leave : All (λ text. LeavesDriver (parsed_line text)) (drop place.whole (take tape.whole tape.lines))
  pub stands : drop place.back (names (take place.whole tape.did)) ≡ standing tape

-- lines that take so many events back were put behind the last, and all stand whole
pub record TakesBack (old new : Tape) (events : ℕ) : Type 0 where
  pub first : new.first ≡ old.first
  pub more : List (List ℕ)
  pub lines : new.lines ≡ old.lines ++ more
  pub says : All (λ line. SaysBack (parsed_line line)) more
  pub back : new.back ≡ 0
  pub whole : new.whole ≡ length new.lines
  pub did : length new.did ≡ length new.lines
  pub stands : names new.did ≡ drop events (names old.did)

-- not so many: only some of them were taken back so
pub record TakesFewerBack (old new : Tape) (events : ℕ) : Type 0 where
  pub taken : ℕ
  pub fewer : taken < events
  pub takes : TakesBack old new taken

-- the next line, which takes so many events back, was performed
pub record TakesNext (old new : Tape) (events : ℕ) : Type 0 where
  pub line : List ℕ
  pub next : slice_get old.lines old.whole ≡ Some line
  pub says : SaysBack (parsed_line line)
  pub plays : Plays old new None None (Ok Done)
  pub did : slice_get new.did old.whole ≡ Some (TookBack events)

-- Lines ahead of the place were dropped, and lines that take events back put behind the others, so that all stand whole and
-- the same events stand behind them. Of the lines at the place only such were dropped as leave a driver and its plan.
pub record IsCut (old new : Tape) (gone : ℕ) : Type 0 where
  -- so many lines stay
  pub line : ℕ
  pub whole : old.back ≡ 0 → line ≡ old.whole
  pub within : line ≤ old.whole
  -- those of the place, and up to the last that says something of a driver
  pub least : line_here old ≤ line
  pub most : line_here old < line → (last : List ℕ) × (slice_get old.lines (line - 1) ≡ Some last)
      × SaysOfDriver (parsed_line last)
  pub leave : All (λ text. LeavesDriver (parsed_line text)) (drop line (take old.whole old.lines))
  pub dropped : gone ≡ length old.lines - line
  pub first : new.first ≡ old.first
  pub more : List (List ℕ)
  pub lines : new.lines ≡ take line old.lines ++ more
  pub says : All (λ text. SaysBack (parsed_line text)) more
  pub back : new.back ≡ 0
  pub last : new.whole ≡ length new.lines
  pub did : length new.did ≡ length new.lines
  pub stands : standing new ≡ standing old
  pub here : old.back ≡ 0 → (new.session ≡ old.session) × (new.lines ≡ take line old.lines)

-- The lines ahead of the place were dropped as in a cut, and all that stay stand whole, but only some of the events that lie
-- ahead were taken back, by lines behind the others.
pub record IsPartlyCut (old new : Tape) : Type 0 where
  pub place : Place
  pub is : IsCutPlace old place
  -- what the lines that stay left
  pub session : Session
  pub takes : TakesFewerBack (record old {
    lines = take place.whole old.lines;
    did = take place.whole old.did;
    whole = place.whole;
    back = 0;
    session = session;
  }) new place.back
