-- The answers of calls that say that memory was refused.
use Rattle.std.specs.Prelude.{ℕ, Bool, true, false, List, Option, Some, None, Result, Ok, Err}
use Rattle.em_driver.specs.declared.outcome.Batch.{Batch}
use Rattle.em_driver.specs.declared.outcome.Stopped.{Stopped}
use Rattle.em_driver.specs.declared.outcome.Cause.{Cause}
use Rattle.em_driver.specs.declared.outcome.Cause.TheVariants.{Memory}

abbrev pub is_memory : Cause → Bool
is_memory Memory = true
is_memory _ = false

-- a start's, which has a cause where it stopped
abbrev pub start_says : Option Cause → Bool
start_says None = false
start_says (Some cause) = is_memory cause

-- those of a call that moves packets
abbrev pub result_says : Result Batch Stopped → Bool
result_says (Ok batch) = false
result_says (Err stopped) = is_memory stopped.cause

abbrev pub batch_says : List (List ℕ) × Result Batch Stopped → Bool
batch_says answer = result_says answer.1
