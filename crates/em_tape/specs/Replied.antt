-- What a player's answer says of a line.
use Rattle.std.specs.Prelude.{Option, Some, None, Result, Ok, Err}
use Rattle.em_text.specs.declared.writer.WriteFailed.{WriteFailed}
use Rattle.em_script.specs.declared.outcome.Outcome.{Outcome}
use Rattle.em_script.specs.declared.fault.BenchFault.{BenchFault}
use Rattle.em_script.specs.declared.fault.BenchFault.TheVariants.{Write}

-- how a line came out that was played; none where it was not
abbrev pub replied_of : Result Outcome BenchFault → Option (Result Outcome WriteFailed)
replied_of (Ok outcome) = Some (Ok outcome)
replied_of (Err Write) = Some (Err record {})
replied_of (Err fault) = None
