-- When the frames were sent that are on the wire: by the times of lines, and by which line sent which frames.
use Rattle.std.specs.Prelude.{◌≡◌, ◌≢◌, ℕ, zero, suc, ◌+◌, ◌-◌, ◌*◌, nat_lt, if◌then◌else◌}
use Rattle.std.specs.Prelude.{List, [], ◌++◌, get_or, length, replicate, take, Option, Some, None}
use Rattle.em_tape.specs.Texts.{texts}
use Rattle.em_debugger.specs.declared.debugger.Debugger.{Debugger}
use Rattle.em_debugger.specs.declared.sending.Clock.{Clock}
use Rattle.em_debugger.specs.Counted.{counted}
use Rattle.em_debugger.specs.Marks.{time_of}
use Rattle.em_debugger.specs.Place.{line_here}
use Rattle.em_debugger.specs.Told.{told_of}

-- ---- what lines sent

-- the number of the first frame that a line sent, by its number, from 1; none where it sent no frame
abbrev pub first_of : ℕ → List (Option ℕ) → Option ℕ
first_of zero firsts = None
first_of (suc k) firsts = get_or firsts k None

-- by how many frames were on the wire before it and behind it
abbrev pub first_sent : ℕ → ℕ → Option ℕ
first_sent before behind = if nat_lt before behind then Some before else None

-- this is kept of one line, and what is kept of the others stays
pub record PutsFirst (number first : ℕ) (old new : List (Option ℕ)) : Type 0 where
  pub this : first_of number new ≡ Some first
  pub others : (n : ℕ) → n ≢ number → first_of n new ≡ first_of n old

-- it is kept of a line which frames it sent, if it sent any
abbrev pub KeepsFirst : ℕ → Option ℕ → List (Option ℕ) → List (Option ℕ) → Type 0
KeepsFirst number None old new = new ≡ old
KeepsFirst number (Some first) old new = PutsFirst number first old new

-- of each line the same is kept
abbrev pub StaysSent : List (Option ℕ) → List (Option ℕ) → Type 0
StaysSent old new = (line : ℕ) → first_of line new ≡ first_of line old

-- ---- the frames, line by line

-- the time of the latest line that has one
abbrev pub later : Option ℕ → Option ℕ → Option ℕ
later None before = before
later (Some time) before = Some time

-- when a line came: by the latest time up to it; without one its number counts as microseconds
abbrev pub moment_of : Option ℕ → ℕ → ℕ
moment_of None line = counted (line * 1000)
moment_of (Some time) line = time

-- so many elements: the first of a list, and where it has not so many, this one behind them
abbrev pub resized : ℕ → ℕ → List ℕ → List ℕ
resized n value values = take n values ++ replicate (n - length values) value

-- what is known behind some lines: the times of the first frames, that of all frames behind those, and the latest time of a
-- line
pub record Course : Type 0 where
  pub given : List ℕ
  pub rest : ℕ
  pub clock : Option ℕ

abbrev pub course_of : Clock → Course
course_of clock = record { given = clock.given.items; rest = clock.rest; clock = clock.latest }

-- a line that sent frames sent all from its first one on, as far as no later line did
abbrev pub with_sent : Option ℕ → ℕ → Course → Course
with_sent None line course = course
with_sent (Some first) line course = record {
  given = resized first course.rest course.given;
  rest = moment_of course.clock line;
  clock = course.clock;
}

-- behind the next line, with its number, the line as it stood if it has a time, and the first frame that it sent
abbrev pub passed : ℕ → List ℕ → Option ℕ → Course → Course
passed line mark first course =
    with_sent first line (record course { clock = later (time_of mark) course.clock })

-- behind the first so many lines
abbrev pub course_at : ℕ → List (Option ℕ) → List (List ℕ) → Course
course_at zero firsts marks = record { given = []; rest = 0; clock = None }
course_at (suc k) firsts marks =
    passed (suc k) (told_of (suc k) marks) (first_of (suc k) firsts) (course_at k firsts marks)

-- the times of so many frames
abbrev pub times_in : ℕ → Course → List ℕ
times_in frames course = resized frames course.rest course.given

-- those of the frames on the wire, up to the line in which the place lies
abbrev pub times_of : Debugger → List ℕ
times_of d =
    times_in (length d.tape.session.machine.present.wire)
    (course_at (line_here d.tape + 1) d.sent.firsts.items (texts d.marks.answers.items))
