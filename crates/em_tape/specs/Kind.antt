-- What a line says, by what its form tells of it.
use Rattle.std.specs.Prelude.{◌≤◌}
use Rattle.em_line.specs.Command.{event, peek, look, back, back_by}
use Rattle.em_line.specs.ParsedLine.{ParsedLine, silent, bad, says, asks, plans}
use Rattle.em_line.specs.Request.{starts, sends, receives, stats, address, sets_address}
use Rattle.em_tape.specs.declared.kind.Kind.{Kind}
use Rattle.em_tape.specs.declared.kind.Kind.TheVariants.{Event, Look, Back, Start, Call, Plan, Nothing}

-- an event, if it says anything
abbrev pub SaysEvent : ParsedLine → Type 0
SaysEvent bad = Unit {0}
SaysEvent (says (event e)) = Unit {0}
SaysEvent _ = ⊥

-- a look, if it says anything
abbrev pub SaysLook : ParsedLine → Type 0
SaysLook bad = Unit {0}
SaysLook (says (peek addr n)) = Unit {0}
SaysLook (says (look what)) = Unit {0}
SaysLook _ = ⊥

-- steps back, if it says anything
abbrev pub SaysBack : ParsedLine → Type 0
SaysBack bad = Unit {0}
SaysBack (says back) = Unit {0}
SaysBack (says (back_by most)) = most ≤ 65536
SaysBack _ = ⊥

-- that a driver is started, if it says anything
abbrev pub SaysStart : ParsedLine → Type 0
SaysStart bad = Unit {0}
SaysStart (asks starts) = Unit {0}
SaysStart _ = ⊥

-- a call of a driver, if it says anything
abbrev pub SaysCall : ParsedLine → Type 0
SaysCall bad = Unit {0}
SaysCall (asks (sends packets)) = Unit {0}
SaysCall (asks (receives most)) = Unit {0}
SaysCall (asks stats) = Unit {0}
SaysCall (asks address) = Unit {0}
SaysCall (asks (sets_address octets)) = Unit {0}
SaysCall _ = ⊥

-- a plan, if it says anything
abbrev pub SaysPlan : ParsedLine → Type 0
SaysPlan bad = Unit {0}
SaysPlan (plans plan) = Unit {0}
SaysPlan _ = ⊥

-- nothing
abbrev pub SaysNothing : ParsedLine → Type 0
SaysNothing bad = Unit {0}
SaysNothing silent = Unit {0}
SaysNothing _ = ⊥

abbrev pub IsKind : Kind → ParsedLine → Type 0
IsKind Event parsed = SaysEvent parsed
IsKind Look parsed = SaysLook parsed
IsKind Back parsed = SaysBack parsed
IsKind Start parsed = SaysStart parsed
IsKind Call parsed = SaysCall parsed
IsKind Plan parsed = SaysPlan parsed
IsKind Nothing parsed = SaysNothing parsed

-- it neither asks anything of a driver nor sets a plan
abbrev pub LeavesDriver : ParsedLine → Type 0
LeavesDriver (asks request) = ⊥
LeavesDriver (plans plan) = ⊥
LeavesDriver _ = Unit {0}

-- it asks something of a driver or sets a plan, if it says anything
abbrev pub SaysOfDriver : ParsedLine → Type 0
SaysOfDriver silent = ⊥
SaysOfDriver (says command) = ⊥
SaysOfDriver _ = Unit {0}
