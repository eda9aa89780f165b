-- The numbers and the names of the causes, and what the answers of calls say.
use Rattle.std.specs.Prelude.{ℕ, List, codes, Result, Ok, Err}
use Rattle.em_step.specs.declared.refusal.Refusal.{Refusal}
use Rattle.em_step.specs.declared.refusal.Refusal.TheVariants as refusal
use Rattle.em_driver.specs.declared.outcome.Batch.{Batch}
use Rattle.em_driver.specs.declared.outcome.Stopped.{Stopped}
use Rattle.em_driver.specs.declared.outcome.Cause.{Cause}
use Rattle.em_driver.specs.declared.outcome.Cause.TheVariants.{Memory, Layout, Checksum, Queue, PacketLength, Broken}

abbrev pub code_of : Cause → ℕ
code_of Memory = 9
code_of Layout = 10
code_of Checksum = 11
code_of Queue = 12
code_of PacketLength = 13
code_of Broken = 14

abbrev pub name_of : Cause → List ℕ
name_of Memory = codes "Memory"
name_of Layout = codes "Layout"
name_of Checksum = codes "Checksum"
name_of Queue = codes "Queue"
name_of PacketLength = codes "PacketLength"
name_of Broken = codes "Broken"

-- a refused access is Memory where it was memory, and Broken otherwise
abbrev pub cause_of : Refusal → Cause
cause_of refusal.Memory = Memory
cause_of _ = Broken

-- how many packets were handed over, and how many events performed
abbrev pub count_of : Result Batch Stopped → ℕ
count_of (Ok batch) = batch.count
count_of (Err stopped) = stopped.count

abbrev pub events_of : Result Batch Stopped → ℕ
events_of (Ok batch) = batch.events
events_of (Err stopped) = stopped.events
