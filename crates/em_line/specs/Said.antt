-- What a line says, with its octets.
use Rattle.em_step.specs.Event.{pokes, arrives}
use Rattle.em_turn.specs.Planned.{planned}
use Rattle.em_line.specs.Command as command
use Rattle.em_line.specs.Command.{event}
use Rattle.em_line.specs.ParsedLine.{ParsedLine, silent, bad, says, asks, plans}
use Rattle.em_line.specs.Request as request
use Rattle.em_line.specs.declared.said.Said.{Said as Lent}
use Rattle.em_line.specs.declared.said.Said.TheVariants as lent

-- what the code keeps, without where its octets lie in memory
abbrev pub plain : Lent → ParsedLine
plain lent.Silent = silent
plain lent.Bad = bad
plain (lent.Command c) = says (command.plain c)
plain (lent.Poke addr octets) = says (event (pokes addr octets.items))
plain (lent.Arrive octets) = says (event (arrives octets.items))
plain (lent.Request r) = asks (request.plain r)
plain (lent.Plan made) = plans (planned made.items)
