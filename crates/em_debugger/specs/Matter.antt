-- What `why` tells, by what it asks about.
use Rattle.std.specs.Prelude.{ℕ, List}
use Rattle.em_prompt.specs.declared.typed.Matter.{Matter}
use Rattle.em_prompt.specs.declared.typed.Matter.TheVariants.{Newest, Line, Step, Interrupt, Dropped}
use Rattle.em_debugger.specs.declared.debugger.Debugger.{Debugger}
use Rattle.em_debugger.specs.declared.why.Such.TheVariants as such
use Rattle.em_debugger.specs.Why.{TellsWhyLine, TellsWhyNewest}
use Rattle.em_debugger.specs.WhyNow.{TellsWhyInterrupt, TellsWhyStep}

abbrev pub TellsWhy : Debugger → Matter → List ℕ → Type 0
TellsWhy d Newest text = TellsWhyNewest such.Undone d text
TellsWhy d Dropped text = TellsWhyNewest such.Dropped d text
TellsWhy d (Line line) text = TellsWhyLine d line text
TellsWhy d (Step side) text = TellsWhyStep d side text
TellsWhy d Interrupt text = TellsWhyInterrupt d text
