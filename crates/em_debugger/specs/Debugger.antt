-- What a debugger begins with, and what its parts hold.
use Rattle.std.specs.Prelude.{◌≡◌, ℕ, true, List, [], None}
use Rattle.em_turn.specs.Planned.{lists}
use Rattle.em_tape.specs.Texts.{texts}
use Rattle.em_journal.specs.Settings.{new_machine}
use Rattle.em_journal.specs.declared.settings.Settings.{Settings}
use Rattle.em_script.specs.Session.{bare}
use Rattle.em_tape.specs.Tape.{empty_tape}
use Rattle.em_script.specs.declared.outcome.Outcome.{Outcome}
use Rattle.em_debugger.specs.declared.debugger.Debugger.{Debugger}
use Rattle.em_debugger.specs.Came.{came_of}
use Rattle.em_debugger.specs.Told.{told_of}

-- what is kept of the answer to the line of a number
abbrev pub told : ℕ → Debugger → List ℕ
told line d = told_of line (texts d.told.answers.items)

-- how the line of a number came out, as it is kept
abbrev pub came : ℕ → Debugger → Outcome
came line d = came_of line d.came.outcomes.items

-- a new machine, no line, and nothing asked for
pub record Begins (given : Settings) (d : Debugger) : Type 0 where
  pub settings : d.settings ≡ given
  pub tape : d.tape ≡ empty_tape (bare (new_machine given))
  pub told : texts d.told.answers.items ≡ []
  pub came : d.came.outcomes.items ≡ []
  pub warnings : d.warnings.lines.items ≡ []
  pub asked : d.asked ≡ None
  pub warns : d.warns ≡ true
  pub wanted : texts d.wanted.answers.items ≡ []
  pub marks : texts d.marks.answers.items ≡ []
  pub sent : d.sent.firsts.items ≡ []
  pub score : d.score ≡ record { agreed = 0; differed = 0; warnings = 0 }
  pub engines : d.engines ≡ 0
  pub offered : lists d.offered.items ≡ []
  pub bookmarks : d.bookmarks.all.items ≡ []

-- all but the tape, the answers that lines expect and their marks is as it was
pub record KeepsSome (old new : Debugger) : Type 0 where
  pub settings : new.settings ≡ old.settings
  pub told : new.told ≡ old.told
  pub came : new.came ≡ old.came
  pub warnings : new.warnings ≡ old.warnings
  pub asked : new.asked ≡ old.asked
  pub warns : new.warns ≡ old.warns
  pub score : new.score ≡ old.score
  pub engines : new.engines ≡ old.engines
  pub offered : new.offered ≡ old.offered
  pub bookmarks : new.bookmarks ≡ old.bookmarks
  pub sent : new.sent ≡ old.sent

-- all but the place on the tape is as it was
pub record KeepsRest (old new : Debugger) : Type 0 where
  pub some : KeepsSome old new
  pub wanted : new.wanted ≡ old.wanted
  pub marks : new.marks ≡ old.marks
