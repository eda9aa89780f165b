-- What a line that calls a driver prints, and what it leaves.
use Rattle.std.specs.Prelude.{ℕ, Bool, true, false, List, [], ◌++◌, Option, Some, None, Result, Ok, Err, unwrap_or}
use Rattle.em_journal.specs.View.{View}
use Rattle.em_turn.specs.declared.turn.Turn.{Turn}
use Rattle.em_driver.specs.World.{World, quiet}
use Rattle.em_driver.specs.Play.{Played}
use Rattle.em_driver.specs.TellsMemory.{start_says, result_says}
use Rattle.em_driver.specs.declared.outcome.Batch.{Batch}
use Rattle.em_driver.specs.declared.outcome.Stopped.{Stopped}
use Rattle.em_driver.specs.declared.outcome.Cause.{Cause}
use Rattle.em_driver.specs.declared.stats.DeviceStats.{DeviceStats}
use Rattle.em_turn.specs.Planned.{lists}
use Rattle.em_script.specs.declared.driver_reply.DriverReply.{DriverReply}
use Rattle.em_script.specs.declared.driver_reply.PlanCounts.{PlanCounts}
use Rattle.em_script.specs.declared.driver_answer.DriverAnswer.{DriverAnswer as Code}
use Rattle.em_script.specs.declared.driver_answer.DriverAnswer.TheVariants as code
use Rattle.em_script.specs.declared.outcome.Outcome.{Outcome}
use Rattle.em_script.specs.declared.outcome.Outcome.TheVariants.{Done, Refused}
use Rattle.em_script.specs.declared.outcome.Refused.TheVariants.{Stopped as stopped_by}
use Rattle.em_output.specs.Output.{done_text}
use Rattle.em_output.specs.Wire.{frames_text}
use Rattle.em_script.specs.DriverText.{started_text, batch_text, stopped_text, stats_text, address_text, turns_text}

-- what a driver answers to a line
pub data DriverAnswer : Type 0 where
  -- to a start: why it stopped, if it did
  start : Option Cause → DriverAnswer
  -- to a call that moves packets: those that came, and how many were moved or why it stopped
  batch : List (List ℕ) → Result Batch Stopped → DriverAnswer
  -- what was counted
  stats : DeviceStats → DriverAnswer
  -- the Ethernet address; and that it was set
  address : List ℕ → DriverAnswer
  set : DriverAnswer

-- a response of the code without where its packets lie in memory
abbrev pub plain : Code → DriverAnswer
plain (code.Start cause) = start cause
plain (code.Batch packets result) = batch (lists packets.items) result
plain (code.Stats counted) = stats counted
plain (code.Address octets) = address octets
plain code.Set = set

-- ---- the answer

abbrev pub result_text : Result Batch Stopped → List ℕ
result_text (Ok moved) = batch_text moved.count moved.events
result_text (Err stopped) = stopped_text stopped.count stopped.events stopped.cause

-- with so many events
abbrev pub driver_answer_text : ℕ → DriverAnswer → List ℕ
driver_answer_text events (start None) = started_text events
driver_answer_text events (start (Some cause)) = stopped_text 0 events cause
driver_answer_text events (batch packets result) = result_text result ++ frames_text packets
driver_answer_text events (stats counted) = stats_text counted
driver_answer_text events (address octets) = address_text octets
driver_answer_text events set = done_text

abbrev pub result_outcome : Result Batch Stopped → Outcome
result_outcome (Ok moved) = Done
result_outcome (Err stopped) = Refused (stopped_by stopped.cause)

abbrev pub driver_answer_outcome : DriverAnswer → Outcome
driver_answer_outcome (start (Some cause)) = Refused (stopped_by cause)
driver_answer_outcome (batch packets result) = result_outcome result
driver_answer_outcome _ = Done

-- whether a driver stands afterwards
abbrev pub is_started : DriverAnswer → Bool
is_started (start (Some cause)) = false
is_started _ = true

-- the answers that say that memory was refused
abbrev pub says_memory : DriverAnswer → Bool
says_memory (start cause) = start_says cause
says_memory (batch packets result) = result_says result
says_memory _ = false

-- ---- the plan

-- the world that a call begins in: the machine, and the plan, if one was set
abbrev pub world_of : View → Option (List (List Turn)) → World
world_of machine plan = record (quiet machine) { plan = unwrap_or plan [] }

-- a plan that was set is told of
abbrev pub plan_text : Option (List (List Turn)) → World → List ℕ
plan_text None w = []
plan_text (Some plan) w = turns_text w.performed w.refused w.starved

-- ---- the whole line

-- what a call that did so prints
abbrev pub call_text : Option (List (List Turn)) → Played DriverAnswer → List ℕ
call_text plan did = driver_answer_text did.events did.answer ++ plan_text plan did.world

-- ---- a call, as the code made it

abbrev pub counts_text : Option PlanCounts → List ℕ
counts_text None = []
counts_text (Some counts) = turns_text counts.performed counts.refused counts.starved

abbrev pub driver_reply_text : DriverReply → List ℕ
driver_reply_text reply = driver_answer_text reply.events (plain reply.answer) ++ counts_text reply.plan
