-- Which octets of guest memory a step reads and writes, and which an event wrote.
use Rattle.std.specs.Prelude.{◌≡◌, ◌≤◌, ℕ, ◌==◌, if◌then◌else◌, List, [], ◌∷◌, length, Option, Some, None, Result, Ok, Err}
use Rattle.em_mem.specs.declared.needs.Needs.{Needs}
use Rattle.em_mem.specs.declared.needs.Range.{Range}
use Rattle.em_step.specs.Before.{written}
use Rattle.em_step.specs.Needs.{rx_needs, tx_needs}
use Rattle.em_step.specs.Undo.{Undo}
use Rattle.em_journal.specs.Record.{IsRecordAt}
use Rattle.em_journal.specs.View.{View}
use Rattle.em_c.specs.declared.ranges.EmRange.{EmRange}
use Rattle.em_c.specs.declared.refused.Refused.{Refused}
use Rattle.em_c.specs.declared.refused.Refused.TheVariants.{NoEvent, NoMachine, NoRing}
use Rattle.em_c.specs.declared.tagged.Tagged.{Tagged}

abbrev pub range_told : Range → EmRange
range_told r = record { address = r.at; length = r.len }

abbrev pub ranges_told : List Range → List EmRange
ranges_told [] = []
ranges_told (r ∷ ranges) = range_told r ∷ ranges_told ranges

-- what the next step of an engine reads and writes, as em_step says: 1 receives, and 2 transmits
abbrev pub needs_in : ℕ → View → Result Needs Refused
needs_in side v =
    if side == 1 then Ok (rx_needs v.present) else if side == 2 then Ok (tx_needs v.present) else Err NoRing

abbrev pub reads_of : Result Needs Refused → Result (List EmRange) Refused
reads_of (Ok needs) = Ok (ranges_told needs.reads)
reads_of (Err refused) = Err refused

abbrev pub writes_of : Result Needs Refused → Result (List EmRange) Refused
writes_of (Ok needs) = Ok (ranges_told needs.writes)
writes_of (Err refused) = Err refused

-- what the k-th newest event wrote, by its record; or there is none
abbrev pub WroteAt : View → ℕ → Result (List Range) Refused → Type 0
WroteAt v k (Ok ranges) = (r : Undo) × IsRecordAt v k r × (ranges ≡ written r.effect)
WroteAt v k (Err NoEvent) = length v.past ≤ k
WroteAt v k (Err refused) = ⊥

-- as it is told
abbrev pub told_of : Result (List Range) Refused → Result (List EmRange) Refused
told_of (Ok ranges) = Ok (ranges_told ranges)
told_of (Err refused) = Err refused

-- of the machine that is held
abbrev pub HeldWroteAt : Option Tagged → ℕ → Result (List Range) Refused → Type 0
HeldWroteAt None k outcome = outcome ≡ Err NoMachine
HeldWroteAt (Some t) k outcome = WroteAt t.traced.view k outcome
