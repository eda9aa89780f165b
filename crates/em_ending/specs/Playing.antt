-- What a script that was played leaves of its reader, its session and its writer, and how the program then ends.
use Rattle.std.specs.Prelude.{◌≡◌, ◌<◌, ◌⊎◌, ℕ, List, [], length, Option, IfSome, Result, Ok, Err}
use Rattle.std.specs.Io.KnownBytes.{Keeps}
use Rattle.em_text.specs.Reader.{most_script}
use Rattle.em_script.specs.declared.fault.BenchFault.{BenchFault}
use Rattle.em_script.specs.declared.fault.BenchFault.TheVariants as fault
use Rattle.em_run.specs.declared.summary.Summary.{Summary}
use Rattle.em_script.specs.Session.{Session}
use Rattle.em_run.specs.Runner.{Answers, FailsInLine, ReadsWhole, StopsBeforeLine}
use Rattle.em_ending.specs.Ending.{ending_of_run}
use Rattle.em_ending.specs.declared.ending.Ending.{Ending}
use Rattle.em_ending.specs.declared.ending.Ending.TheVariants.{Fault}

-- what a run leaves, by how it ended: a reader had the octets `given` and has `rest`, and a writer held `old` and holds
-- `new`
abbrev pub Leaves : Option (List ℕ) → Option (List ℕ) → Session → Session → Option (List ℕ) → Option (List ℕ)
    → Result Summary BenchFault → Type 0
Leaves given rest first now old new (Ok summary) =
    (script : List ℕ) × ReadsWhole given rest script × Answers script first now old new summary
Leaves given rest first now old new (Err fault.Read) = (now ≡ first) × Keeps old new
Leaves given rest first now old new (Err fault.TooLarge) =
    (now ≡ first) × Keeps old new × IfSome given (λ octets. most_script < length octets)
Leaves given rest first now old new (Err fault.Memory) =
    ((now ≡ first) × Keeps old new)
    ⊎ ((script : List ℕ) × ReadsWhole given rest script × StopsBeforeLine script first now old new)
Leaves given rest first now old new (Err fault.Write) =
    (script : List ℕ) × ReadsWhole given rest script × FailsInLine script first now old new

-- what was written is out of the writer's buffer, and then the program ends as the run did; or the writer failed
abbrev pub EndsBy : Result Summary BenchFault → List ℕ → Ending → Type 0
EndsBy ran waiting ending = ((waiting ≡ []) × (ending ≡ ending_of_run ran)) ⊎ (ending ≡ Fault fault.Write)

-- a script was run, what was written was flushed, and the ending says how both went
pub record Plays (given rest : Option (List ℕ)) (first now : Session) (old new : Option (List ℕ)) (waiting : List ℕ)
    (ending : Ending) : Type 0 where
  pub ran : Result Summary BenchFault
  pub leaves : Leaves given rest first now old new ran
  pub ends : EndsBy ran waiting ending
