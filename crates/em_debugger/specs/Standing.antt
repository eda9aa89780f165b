-- Where a session stands, and what became of a typed line, for those who read answers as data.
use Rattle.std.specs.Prelude.{ℕ, ◌==◌, nat_lt, if◌then◌else◌, ◌&&◌, List, length, Option, Some, None, Result, Ok, Err}
use Rattle.em_console.specs.declared.standing.Became.{Became}
use Rattle.em_console.specs.declared.standing.Became.TheVariants as became
use Rattle.em_console.specs.declared.standing.Standing.{Standing}
use Rattle.em_prompt.specs.BenchLine.{BenchLine}
use Rattle.em_prompt.specs.Prompt.{Wrong, prompted}
use Rattle.em_prompt.specs.Typed as typed
use Rattle.em_prompt.specs.Typed.{Typed}
use Rattle.em_script.specs.declared.outcome.Outcome.{Outcome}
use Rattle.em_script.specs.declared.outcome.Outcome.TheVariants as outcome
use Rattle.em_tape.specs.Tape.{event_of}
use Rattle.em_debugger.specs.declared.debugger.Debugger.{Debugger}
use Rattle.em_debugger.specs.Answering.{asking}
use Rattle.em_debugger.specs.Debugger.{came}
use Rattle.em_debugger.specs.Marks.{marks_of, source_at}
use Rattle.em_debugger.specs.Performing.{is_among_lines}
use Rattle.em_debugger.specs.Place.{line_here}

-- the line at the place, how many lines there are, the newest event that stands, and whether lines or events lie ahead
abbrev pub standing : Debugger → Standing
standing d = record {
  line = line_here d.tape;
  lines = length d.tape.lines;
  event = event_of d.tape;
  is_ahead = is_among_lines d.tape;
}

-- where the line at the place comes from
abbrev pub source_here : Debugger → List ℕ
source_here d = source_at (line_here d.tape) (marks_of d)

-- ---- what became of a line that was typed where the session stood so

-- by how the newest line came out that was performed
abbrev pub by_outcome : Outcome → Became
by_outcome outcome.Silent = became.Silent
by_outcome outcome.Bad = became.Wrong
by_outcome (outcome.Refused why) = became.Refused
by_outcome _ = became.Done

-- of a line that performs others, or is performed: by the newest of them, if there is one
abbrev pub by_performed : Debugger → Standing → Became
by_performed d before =
    if nat_lt before.line (line_here d.tape) then by_outcome (came (line_here d.tape) d) else became.Told

-- of a line that goes to another place: done, if the session stands at another one now
abbrev pub by_move : Debugger → Standing → Became
by_move d before =
    if (before.line == line_here d.tape) && (before.event == event_of d.tape) then became.Told else became.Done

abbrev pub by_typed : Debugger → Standing → Typed → Became
by_typed d before typed.silent = became.Silent
by_typed d before (typed.line bench) = by_performed d before
by_typed d before (typed.next count) = by_performed d before
by_typed d before typed.run = by_performed d before
by_typed d before (typed.run_until until) = by_performed d before
by_typed d before typed.arrive_next = by_performed d before
by_typed d before typed.arrive_all = by_performed d before
by_typed d before (typed.back count) = by_move d before
by_typed d before (typed.back_to line) = by_move d before
by_typed d before (typed.forward events) = by_move d before
by_typed d before (typed.forward_to line) = by_move d before
by_typed d before (typed.goto event) = by_move d before
by_typed d before (typed.goto_mark name) = by_move d before
by_typed d before typed.quit = became.Ended
by_typed d before _ = became.Told

abbrev pub by_prompted : Debugger → Standing → Result Typed Wrong → Became
by_prompted d before (Ok typed) = by_typed d before typed
by_prompted d before (Err wrong) = became.Wrong

-- a line of em_bench's, behind which an expected answer, a source and a comment may stand, or what else is typed
abbrev pub by_line : Debugger → Standing → List ℕ → Option BenchLine → Became
by_line d before line None = by_prompted d before (prompted d.settings.profile line)
by_line d before line (Some bench) = by_performed d before

-- a line that is too long is none
abbrev pub became_of : Debugger → List ℕ → Standing → Became
became_of d line before =
    if nat_lt (length line) 0xFFFF_FFFF then by_line d before line (asking d.settings.profile line) else became.Wrong
