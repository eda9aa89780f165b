-- The lines of a debugging session, and the place in it.
use Rattle.std.specs.Prelude.{◌≡◌, ◌≢◌, ◌⊎◌, ℕ, ◌+◌, ◌*◌, ◌<◌, ◌≤◌, ◌^◌, ◌==◌, if◌then◌else◌, Bool, true, List, [], All, length, take, drop}
use Rattle.std.specs.Prelude.{zero, suc, refl, Option, None, slice_get}
use Rattle.std.specs.Coded.{Coded, code_by, coded×, coded_list, coded_ℕ, coded_bool}
use Rattle.std.specs.List.{AllByRecursion}
use Rattle.em_journal.specs.View.{after_backs}
use Rattle.em_script.specs.Session.{Session, session_code}
use Rattle.em_script.specs.PlayedLine.{PlayedLine, after_all, ArePlayed, with_memory}
use Rattle.em_named.specs.Did.{did_code}
use Rattle.em_named.specs.Names.{names}
use Rattle.em_named.specs.Numbers.{above, end_of, line_of, number_in, number_of}
use Rattle.em_named.specs.Place.{place_of}
use Rattle.em_named.specs.declared.did.Did.{Did}
use Rattle.em_named.specs.declared.did.Name.{Name}
use Rattle.em_script.specs.Did.{all_did}

pub record Tape : Type 0 where
  -- what it begins with
  pub first : Session
  -- the lines that were typed or loaded
  pub lines : List (List ℕ)
  -- what each line did with events that was performed so far
  pub did : List Did
  -- whether the answer of each of them could be written: of one whose answer could not, it is not known what it did
  pub answered : Bool
  -- how many lines stand performed at the place
  pub whole : ℕ
  -- how many of their newest events are taken back
  pub back : ℕ
  -- what one sees at the place
  pub session : Session

abbrev pub tape_code : Coded Tape
tape_code =
    code_by (Session × (List (List ℕ) × (List Did × (Bool × (ℕ × (ℕ × Session))))))
    (coded× session_code (coded× (coded_list (coded_list coded_ℕ))
    (coded× (coded_list did_code) (coded× coded_bool (coded× coded_ℕ (coded× coded_ℕ session_code))))))
    (λ t. (t.first, (t.lines, (t.did, (t.answered, (t.whole, (t.back, t.session)))))))
    (λ p. record {
      first = p.0;
      lines = p.1.0;
      did = p.1.1.0;
      answered = p.1.1.1.0;
      whole = p.1.1.1.1.0;
      back = p.1.1.1.1.1.0;
      session = p.1.1.1.1.1.1;
    }) (λ _. refl)

-- before any line
abbrev pub empty_tape : Session → Tape
empty_tape first = record {
  first = first;
  lines = [];
  did = [];
  answered = true;
  whole = 0;
  back = 0;
  session = first;
}

-- the newest n events are taken back; the driver and the plan stay as the whole lines left them
abbrev pub taken_back : ℕ → Session → Session
taken_back n session = record session { machine = after_backs n session.machine }

-- the session is what the lines left as they were played, with so many of the newest events taken back
pub record IsAt (first : Session) (lines : List (List ℕ)) (back : ℕ) (now : Session) : Type 0 where
  pub all : List PlayedLine
  pub played : ArePlayed all lines first
  pub session : now ≡ taken_back back (after_all all first)

-- a line that a player can play
abbrev pub IsShort : List ℕ → Type 0
IsShort line = length line < 0xFFFF_FFFF

-- Each line was noted to have done what it did.
abbrev pub AreNoted : Bool → List Did → List PlayedLine → Session → Type 0
AreNoted answered did all first = answered ≡ true → did ≡ all_did all first

-- what holds of a tape between two calls: it shows what its place says, it is known what each line did, and there is room
-- to go on
pub record IsTape (first : Session) (lines : List (List ℕ)) (did : List Did) (answered : Bool) (whole back : ℕ)
    (session : Session) : Type 0 where
  pub place : IsAt first (take whole lines) back session
  pub noted : AreNoted answered (take whole did) place.all first
  pub known : whole ≤ length did
  pub performed : length did ≤ length lines
  pub short : All IsShort lines
  pub few : length lines ≤ 0x3FFF_FFFF
  pub counts : (k : ℕ) → end_of k did ≤ k * 0x2_0000_0000
  pub room : back + length session.machine.past < 2 ^ 64

abbrev pub HoldsTape : Tape → Type 0
HoldsTape tape = IsTape tape.first tape.lines tape.did tape.answered tape.whole tape.back tape.session

-- ---- the events at the place

-- the names of those that stand there, the newest first
abbrev pub standing : Tape → List Name
standing tape = drop tape.back (names (take tape.whole tape.did))

-- its line is one of the whole ones, and its number one of 64 bits
pub record IsNamed (tape : Tape) (one : Name) : Type 0 where
  pub first : 1 ≤ one.line
  pub last : one.line ≤ tape.whole
  pub known : tape.whole ≤ length tape.did
  pub small : number_of tape.did one < 2 ^ 64

-- the number of the one so many steps back from the place, of the newest at 0; 0 where no so many stand
abbrev pub event_at : ℕ → Tape → ℕ
event_at k tape = number_in tape.did (slice_get (standing tape) k)

-- the number of the newest
abbrev pub event_of : Tape → ℕ
event_of tape = event_at 0 tape

-- how many have a number above n: so many steps back lead to where none has
abbrev pub behind : ℕ → Tape → ℕ
behind n tape = above n tape.did (standing tape)

-- the line of the place: where it is whole, that of its last line; else so many lines as do not lie ahead of it
abbrev pub line_here : Tape → ℕ
line_here tape = (place_of (take tape.whole tape.did) tape.back).whole

-- how many events were performed up to the place: up to the newest that stands, if the line of the place performed it; else up
-- to the end of that line, behind whose events some of earlier lines may have been taken back
abbrev pub reached : Tape → ℕ
reached tape =
    if line_of (event_of tape) tape.did == line_here tape then event_of tape else end_of (line_here tape) tape.did

-- no steps back lead to right behind event n: it does not stand, or the journal does not reach back to it
abbrev pub IsOutOfReach : ℕ → Tape → Type 0
IsOutOfReach n tape = (event_at (behind n tape) tape ≢ n) ⊎ (length tape.session.machine.past < behind n tape)

-- at event n; or at the end, where not so many events were performed; or in its line, as near behind it as the journal reaches
-- from where that line is whole
pub data IsNear (n : ℕ) (tape : Tape) : Type 0 where
  there : event_of tape ≡ n → IsNear n tape
  at_end : tape.whole ≡ length tape.did → tape.back ≡ 0 → end_of tape.whole tape.did < n → IsNear n tape
  near : tape.whole ≡ line_of n tape.did → tape.session.machine.past ≡ [] → n < event_of tape → IsNear n tape

-- of a line by its number, from 1
abbrev pub line_at : {X : Type 0} → ℕ → List X → Option X
line_at zero lines = None
line_at (suc k) lines = slice_get lines k

-- memory was refused to none of them
abbrev pub HadMemory : List PlayedLine → Type 0
HadMemory all = AllByRecursion (λ (played : PlayedLine). played.refused ≡ None) all

-- what the lines leave where memory is refused to none, with so many of the newest events taken back
abbrev pub session_at : Session → List (List ℕ) → ℕ → Session
session_at first lines back = taken_back back (after_all (with_memory lines) first)
