-- The frames that were sent are handed over, each once.
use Rattle.std.specs.Prelude.{ℕ, ◌+◌, List, Option, Some, None, Result, Ok, Err}
use Rattle.em_c.specs.declared.refused.Refused.{Refused}
use Rattle.em_c.specs.declared.refused.Refused.TheVariants.{NoMachine}
use Rattle.em_c.specs.declared.tagged.Tagged.{Tagged}
use Rattle.em_c.specs.Looks.{laid_into, wire_frame}

-- the first frame of the wire that was not handed over, where there is one
abbrev pub next_of : Tagged → Result (List ℕ) Refused
next_of t = wire_frame t.handed t.traced.view

abbrev pub next_frame : Option Tagged → Result (List ℕ) Refused
next_frame None = Err NoMachine
next_frame (Some t) = next_of t

-- where it was laid into the room for it, it was handed over; else nothing changes
abbrev pub handed_by : {X : Type 0} → Result X Refused → Tagged → Tagged
handed_by (Ok octets) t = record t { handed = t.handed + 1 }
handed_by (Err refused) t = t

abbrev pub after_next : List ℕ → Tagged → Tagged
after_next room t = handed_by (laid_into room (next_of t)) t

abbrev pub held_after_next : List ℕ → Option Tagged → Option Tagged
held_after_next room None = None
held_after_next room (Some t) = Some (after_next room t)
