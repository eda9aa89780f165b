-- Where memory was refused to a line.
use Rattle.std.specs.Prelude.{List, Option, Some, None}
use Rattle.em_journal.specs.History.{Call}
use Rattle.em_driver.specs.Play.{Played}
use Rattle.em_script.specs.DriverAnswer.{DriverAnswer}

pub data RefusedAt : Type 0 where
  -- to its event, or to the plan that it sets: nothing was done
  before : RefusedAt
  -- to a call of the driver, or to a turn before one of its accesses: the call did so, and these calls of the machine
  -- were made
  within : Played DriverAnswer → List Call → RefusedAt

-- what a call did, where it is named
abbrev pub named_of : Option RefusedAt → Option (Played DriverAnswer)
named_of (Some (within did calls)) = Some did
named_of _ = None
