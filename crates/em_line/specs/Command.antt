-- What to do with a machine, as data.
use Rattle.std.specs.Prelude.{ℕ, Bool, true, false}
use Rattle.em_step.specs.Event as events
use Rattle.em_step.specs.Event.{Event}
use Rattle.em_line.specs.declared.look.Look.{Look}
use Rattle.em_line.specs.declared.command.Command.{Command as Lent}
use Rattle.em_line.specs.declared.command.Command.TheVariants as lent

-- an event, a look at memory, a look that one word asks for, or steps back
pub data Command : Type 0 where
  event : Event → Command
  peek : ℕ → ℕ → Command
  look : Look → Command
  back : Command
  back_by : ℕ → Command

-- a command of the code without where its octets lie in memory
abbrev pub plain : Lent → Command
plain (lent.Event e) = event (events.plain e)
plain (lent.Peek addr len) = peek addr len.octets
plain (lent.Look what) = look what
plain lent.Back = back
plain (lent.BackBy most) = back_by most.events

-- it only looks at the machine
abbrev pub is_look : Command → Bool
is_look (peek addr len) = true
is_look (look what) = true
is_look _ = false
