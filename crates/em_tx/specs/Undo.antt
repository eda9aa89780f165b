-- What a record of the transmit side says, and when it can be said.
use Rattle.std.specs.Prelude.{
  ◌≡◌,
  ◌≤◌,
  ◌<◌,
  ℕ,
  ◌-◌,
  Bool,
  true,
  false,
  List,
  length,
  take,
  slice_index_or,
  if◌then◌else◌,
  Option,
  Some,
  None,
  [],
  IsTrue,
}
use Rattle.em_mem.specs.Memory as mem
use Rattle.em_tx.specs.Cells.{Cells, Gathered, MorePages, cells}
use Rattle.em_tx.specs.Frame.{without_tag}
use Rattle.em_tx.specs.declared.undo.TxUndo.{TxUndo}
use Rattle.em_tx.specs.declared.undo.TxUndo.TheVariants.{Nothing, Step, Cleared}
use Rattle.em_tx.specs.declared.change.Sent.{Sent}
use Rattle.em_tx.specs.declared.change.Sent.TheVariants.{NoFrame, Untagged, Tagged}
use Rattle.em_tx.specs.Change.{Change}

-- the status octet, where one was written
abbrev pub StatusFits : mem.Cells → Option mem.Patch → Type 0
StatusFits m None = Unit {0}
StatusFits m (Some status) = mem.Fits m status

abbrev pub status_undo : mem.Cells → Option mem.Patch → mem.Cells
status_undo m None = m
status_undo m (Some status) = mem.undo m status

pub record StatusReverses (old new : mem.Cells) (status : Option mem.Patch) : Type 0 where
  pub fits : StatusFits new status
  pub restores : status_undo new status ≡ old

-- the frame that went last to the wire, and those before it
abbrev pub last_of : List (List ℕ) → List ℕ
last_of w = slice_index_or w (length w - 1) []

abbrev pub front_of : List (List ℕ) → List (List ℕ)
front_of w = take (length w - 1) w

-- a frame is on the wire, and the first n octets of it beside its tag are old ones
abbrev pub FrameFits : List (List ℕ) → ℕ → Bool → Type 0
FrameFits w n tagged =
    (0 < length w) × ((if tagged then 16 else 0) ≤ length (last_of w)) × (n ≤ length (without_tag tagged (last_of w)))

-- the n old octets are among the gathered ones; or among those of the last frame, beside its tag, and there is room
-- to gather them again
abbrev pub SentFits : Cells → ℕ → Sent → Type 0
SentFits c n NoFrame = n ≤ length c.gathered.octets
SentFits c n Untagged = FrameFits c.wire n false × IsTrue c.gathered.room
SentFits c n Tagged = FrameFits c.wire n true × IsTrue c.gathered.room

abbrev pub ChangeFits : Cells → Change → Type 0
ChangeFits c r = SentFits c r.count r.sent × StatusFits c.memory r.status

abbrev pub Fits : Cells → TxUndo → Type 0
Fits c Nothing = Unit {0}
Fits c (Step change) = ChangeFits c change
Fits c (Cleared old) = Unit {0}

-- the gathered octets are cut to the n that there were; or they are the first n of the frame that went last, without
-- its tag
abbrev pub gathered_of : ℕ → Sent → List ℕ → List ℕ → List ℕ
gathered_of n NoFrame octets last = take n octets
gathered_of n Untagged octets last = take n (without_tag false last)
gathered_of n Tagged octets last = take n (without_tag true last)

abbrev pub wire_before : List (List ℕ) → Sent → List (List ℕ)
wire_before w NoFrame = w
wire_before w Untagged = front_of w
wire_before w Tagged = front_of w

abbrev pub gathered_before : Cells → ℕ → Sent → List ℕ
gathered_before c n sent = gathered_of n sent c.gathered.octets (last_of c.wire)

-- their room stays
abbrev pub undo_gathered : Cells → ℕ → Sent → Gathered
undo_gathered c n sent = record { octets = gathered_before c n sent; room = c.gathered.room }

abbrev pub undo_change : Cells → Change → Cells
undo_change c r = cells (undo_gathered c r.count r.sent) (wire_before c.wire r.sent) (status_undo c.memory r.status)

abbrev pub undo : Cells → TxUndo → Cells
undo c Nothing = c
undo c (Step change) = undo_change c change
-- what was gathered comes back with its room
undo c (Cleared old) = record c { gathered = old }

-- the record takes the change from the old cells to the new ones back, but that more pages may be made, and room for
-- gathered octets
pub record Reverses (old new : Cells) (r : TxUndo) : Type 0 where
  pub fits : Fits new r
  pub restores : MorePages old (undo new r)

-- what a record costs beyond the least
abbrev pub cost_of : TxUndo → ℕ
cost_of Nothing = 0
cost_of (Step change) = change.cost
cost_of (Cleared old) = 0
