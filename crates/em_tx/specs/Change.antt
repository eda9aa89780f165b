-- What a step keeps of the cells that it changed.
use Rattle.std.specs.Prelude.{ℕ, ◌/◌, ◌%◌, ◌==◌, if◌then◌else◌, Bool, true, false, List, Option, Some, None}
use Rattle.em_mem.specs.Memory as mem
use Rattle.em_tx.specs.declared.change.Sent.{Sent}
use Rattle.em_tx.specs.declared.change.Sent.TheVariants.{NoFrame, Untagged, Tagged}

pub record Change : Type 0 where
  -- how many octets were gathered
  pub count : ℕ
  -- what the step costs beyond the least
  pub cost : ℕ
  -- the frame that it sent
  pub sent : Sent
  -- the status octet that it overwrote
  pub status : Option mem.Patch

-- a frame with a tag, or without one
abbrev pub sent_with : Bool → Sent
sent_with true = Tagged
sent_with false = Untagged

-- ---- a change in ten octets: what it costs has 15 bits and how many octets were gathered 14, so that those above them
-- say whether a status octet was overwritten and which frame was sent
abbrev pub status_of : ℕ → ℕ → List ℕ → Option mem.Patch
status_of cost at octet = if cost / 0x8000 == 0 then None else Some (record { at = at; octets = octet })

abbrev pub sent_by : ℕ → Sent
sent_by number = if number == 0 then NoFrame else if number == 1 then Untagged else Tagged

abbrev pub change_of : ℕ → ℕ → ℕ → List ℕ → Change
change_of cost count at octet = record {
  count = count % 0x4000;
  cost = cost % 0x8000;
  sent = sent_by (count / 0x4000);
  status = status_of cost at octet;
}
