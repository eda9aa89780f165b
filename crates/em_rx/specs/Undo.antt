-- What a record says, when it can be said of cells, and what it puts back.
use Rattle.std.specs.Prelude.{◌≡◌, ℕ, ◌+◌, ◌-◌, ◌<◌, ◌≤◌, List, length, set, slice_index_or, Bool, if◌then◌else◌, None}
use Rattle.em_mem.specs.Memory as memory
use Rattle.em_mem.specs.OldOctets.{back_by}
use Rattle.em_mem.specs.Ring.{ring_put, wrap}
use Rattle.em_rx.specs.Fifo.{Cells, Fifo, IsSound, after_delivery, next, shows}
use Rattle.em_rx.specs.FramePatch.{FramePatch}
use Rattle.em_rx.specs.StepPatch.{StepPatch}
use Rattle.em_rx.specs.RxUndo.{RxUndo, Nothing, Places, Frame, Step}
use Rattle.em_rx.specs.declared.places.Entry.{Entry}
use Rattle.em_rx.specs.declared.places.Places as places
use Rattle.em_rx.specs.declared.undo.OldPiece.{OldPiece}

-- the places before the newest frame of n octets arrived
abbrev pub places_without : places.Places → ℕ → places.Places
places_without q n = record q { count = q.count - 1; used = q.used - n }

-- the cells before the newest frame arrived, which has as many octets as the patch
abbrev pub with_patch : Cells → FramePatch → Cells
with_patch c p =
    let q : places.Places = places_without c.places (length p.octets) in
    record {
      octets = ring_put c.octets (wrap 49_152 (q.head + q.used)) p.octets;
      entries = set c.entries (wrap 877 (q.first + q.count)) p.entry;
      places = q;
    }

-- there is a newest frame, no shorter than the patch, and the cells without it are sound
pub record FitsFrame (c : Cells) (p : FramePatch) : Type 0 where
  pub some : 0 < c.places.count
  pub count : c.places.count ≤ 877
  pub used : length p.octets ≤ c.places.used
  pub sound : IsSound (with_patch c p)

-- the entry of the frame that left last
abbrev pub entry_left : Cells → Entry
entry_left c = slice_index_or c.entries (back_by 877 1 c.places.first) (record { len = 0; tag = None })

-- the places with that frame back, whose last n octets are not in guest memory yet
abbrev pub places_with_first : Cells → ℕ → places.Places
places_with_first c n =
    let len : ℕ = (entry_left c).len in
    record {
      head = back_by 49_152 len c.places.head;
      first = back_by 877 1 c.places.first;
      count = c.places.count + 1;
      taken = len - n;
      used = c.places.used + len;
    }

-- the places with n octets less in guest memory, with which the first frame left or did not
abbrev pub moved_back : Cells → ℕ → Bool → places.Places
moved_back c n left = if left then places_with_first c n else record c.places { taken = c.places.taken - n }

-- the places before a step
abbrev pub places_before : Cells → StepPatch → places.Places
places_before c p = moved_back c (length p.first.octets) p.left

-- memory with both patches put in, the first one before the second
abbrev pub with_both : memory.Cells → StepPatch → memory.Cells
with_both m p = memory.undo (memory.undo m p.first) p.second

-- both patches lie in memory, in pages that are made, and the cells with the places before the step are sound
pub record FitsStep (c : Cells) (m : memory.Cells) (p : StepPatch) : Type 0 where
  pub first : memory.Fits m p.first
  pub second : memory.Fits (memory.undo m p.first) p.second
  pub sound : IsSound (record c { places = places_before c p })

-- memory with the next octets of the first frame in a buffer, and then the end of a descriptor written back
abbrev pub delivered : Fifo → List ℕ → OldPiece → List ℕ → List ℕ
delivered fifo octets p end = memory.put (memory.put octets p.buffer (next fifo p.len)) p.end_at end

-- with these places the cells show n octets more of the first frame in guest memory
pub record IsMove (c : Cells) (places : places.Places) (n : ℕ) : Type 0 where
  pub sound : IsSound (record c { places = places })
  pub shown : shows (record c { places = places }) ≡ after_delivery (shows c) n

-- the record's cells lie in the FIFO's and in guest memory
abbrev pub Fits : Cells → memory.Cells → RxUndo → Type 0
Fits c m Nothing = Unit {0}
Fits c m (Places places) = IsSound (record c { places = places })
Fits c m (Frame patch) = FitsFrame c patch
Fits c m (Step patch) = FitsStep c m patch

-- a step's patch takes back the change from the old cells and memory to the new ones
pub record ReversesStep (old new : Cells) (before after : memory.Cells) (p : StepPatch) : Type 0 where
  pub fits : FitsStep new after p
  pub fifo : record new { places = places_before new p } ≡ old
  pub memory : with_both after p ≡ before

-- the FIFO's cells with those of the record put back
abbrev pub undo_fifo : Cells → RxUndo → Cells
undo_fifo c Nothing = c
undo_fifo c (Places places) = record c { places = places }
undo_fifo c (Frame patch) = with_patch c patch
undo_fifo c (Step patch) = record c { places = places_before c patch }

-- guest memory with the record's octets put back
abbrev pub undo_memory : memory.Cells → RxUndo → memory.Cells
undo_memory m Nothing = m
undo_memory m (Places places) = m
undo_memory m (Frame patch) = m
undo_memory m (Step patch) = with_both m patch

-- how many octets the record holds
abbrev pub octets_held : RxUndo → ℕ
octets_held Nothing = 0
octets_held (Places places) = 0
octets_held (Frame patch) = length patch.octets
octets_held (Step patch) = length patch.first.octets + length patch.second.octets

-- the record takes back the change from the old cells and memory to the new ones
pub record Reverses (old new : Cells) (before after : memory.Cells) (r : RxUndo) : Type 0 where
  pub fits : Fits new after r
  pub fifo : undo_fifo new r ≡ old
  pub memory : undo_memory after r ≡ before

-- the same, but that more pages of memory may be left made
pub record ReversesInPages (old new : Cells) (before after : memory.Cells) (r : RxUndo) : Type 0 where
  pub fits : Fits new after r
  pub fifo : undo_fifo new r ≡ old
  pub memory : memory.MorePages before (undo_memory after r)
