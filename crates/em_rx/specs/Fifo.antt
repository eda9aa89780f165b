-- What the FIFO shows, and what it keeps.
use Rattle.std.specs.Prelude.{◌≡◌, ℕ, ◌+◌, ◌-◌, ◌<◌, ◌≤◌, nat_lt, if◌then◌else◌, List, [], ◌∷◌, ◌++◌, All, length, take}
use Rattle.std.specs.Prelude.{drop, replicate, slice_index_or, sum_by, Option, None, refl}
use Rattle.std.specs.Coded.{Coded, code_by, coded×, coded_list, coded_ℕ, coded_option}
use Rattle.em_mem.specs.Memory.{part}
use Rattle.em_rx.specs.Frame.{Frame, len_of}
use Rattle.em_mem.specs.Ring.{ring_part, turn, wrap}
use Rattle.em_rx.specs.declared.places.Entry.{Entry}
use Rattle.em_rx.specs.declared.places.Places.{Places}

-- the stored frames, the oldest first, and how many octets of the first one are in guest memory already
pub record Fifo : Type 0 where
  pub frames : List Frame
  pub taken : ℕ

-- no frame
abbrev pub empty : Fifo
empty = record { frames = []; taken = 0 }

-- a frame more, which comes last
abbrev pub after_arrival : Fifo → Frame → Fifo
after_arrival fifo frame = record fifo { frames = fifo.frames ++ frame ∷ [] }

-- how many octets the frames have: each counts whole until it leaves
abbrev pub octets_in : Fifo → ℕ
octets_in fifo = sum_by len_of fifo.frames

-- a frame of n stored octets has room
abbrev pub HasRoom : Fifo → ℕ → Type 0
HasRoom fifo n = octets_in fifo + n ≤ 49_152

-- the oldest frame
abbrev pub first : Fifo → Frame
first fifo = elim fifo.frames [ [] ↦ record { octets = []; tag = None } | frame ∷ frames ↦ frame ]

-- the newest frame
abbrev pub last : Fifo → Frame
last fifo = slice_index_or fifo.frames (length fifo.frames - 1) (record { octets = []; tag = None })

-- how many of its octets are not in guest memory yet
abbrev pub rest : Fifo → ℕ
rest fifo = length (first fifo).octets - fifo.taken

-- the next n of them
abbrev pub next : Fifo → ℕ → List ℕ
next fifo n = part (first fifo).octets fifo.taken n

-- n octets more are in guest memory; with its last one the frame leaves
abbrev pub after_delivery : Fifo → ℕ → Fifo
after_delivery fifo n =
    if nat_lt (fifo.taken + n) (length (first fifo).octets) then record fifo { taken = fifo.taken + n }
    else record { frames = drop 1 fifo.frames; taken = 0 }

-- of the first frame not all is taken, and of none nothing
abbrev pub IsTakenOf : ℕ → List Frame → Type 0
IsTakenOf taken [] = taken ≡ 0
IsTakenOf taken (frame ∷ frames) = taken < len_of frame

-- frames that a FIFO can have: they have room, and each has as many octets as the least one stored, 60 without a tag of 4
pub record IsFifo (fifo : Fifo) : Type 0 where
  pub room : octets_in fifo ≤ 49_152
  pub least : All (λ frame. 56 ≤ len_of frame) fifo.frames
  pub taken : IsTakenOf fifo.taken fifo.frames

-- what the FIFO keeps: each octet of the packet buffer, each entry of the ring, and the places in both.
-- Octets that no frame has stay as they are until an arrival overwrites them
pub record Cells : Type 0 where
  pub octets : List ℕ
  pub entries : List Entry
  pub places : Places

abbrev pub entry_code : Coded Entry
entry_code =
    code_by (ℕ × Option ℕ) (coded× coded_ℕ (coded_option coded_ℕ))
    (λ e. (e.len, e.tag)) (λ p. record { len = p.0; tag = p.1 }) (λ _. refl)

abbrev pub places_code : Coded Places
places_code =
    code_by (ℕ × (ℕ × (ℕ × (ℕ × ℕ)))) (coded× coded_ℕ (coded× coded_ℕ (coded× coded_ℕ (coded× coded_ℕ coded_ℕ))))
    (λ p. (p.head, (p.first, (p.count, (p.taken, p.used)))))
    (λ q. record { head = q.0; first = q.1.0; count = q.1.1.0; taken = q.1.1.1.0; used = q.1.1.1.1 }) (λ _. refl)

-- cells are stored as the pairs of their fields
abbrev pub cells_code : Coded Cells
cells_code =
    code_by (List ℕ × (List Entry × Places)) (coded× (coded_list coded_ℕ) (coded× (coded_list entry_code) places_code))
    (λ c. (c.octets, (c.entries, c.places))) (λ p. record { octets = p.0; entries = p.1.0; places = p.1.1 }) (λ _. refl)

-- octets cut into frames by their entries
abbrev pub cut : List Entry → List ℕ → List Frame
cut [] octets = []
cut (e ∷ es) octets = record { octets = take e.len octets; tag = e.tag } ∷ cut es (drop e.len octets)

-- the entries of the frames, the oldest first
abbrev pub live : Cells → List Entry
live c = take c.places.count (turn c.places.first c.entries)

-- what cells show
abbrev pub shows : Cells → Fifo
shows c = record { frames = cut (live c) (turn c.places.head c.octets); taken = c.places.taken }

-- how many octets the frames of these entries have
abbrev pub total : List Entry → ℕ
total entries = sum_by (λ e. e.len) entries

-- of the first frame not all is taken, and of none nothing
abbrev pub IsWithin : ℕ → List Entry → Type 0
IsWithin taken [] = taken ≡ 0
IsWithin taken (e ∷ es) = taken < e.len

-- the places agree with the entries, and each frame has as many octets as the least one stored, 60 without a tag of 4
pub record IsSound (c : Cells) : Type 0 where
  pub octets : length c.octets ≡ 49_152
  pub entries : length c.entries ≡ 877
  pub head : c.places.head < 49_152
  pub first : c.places.first < 877
  pub count : c.places.count ≤ 877
  pub used : total (live c) ≡ c.places.used
  pub room : c.places.used ≤ 49_152
  pub least : All (λ e. 56 ≤ e.len) (live c)
  pub within : IsWithin c.places.taken (live c)

-- a new FIFO: a buffer and a ring of zeros, and no frame
unfoldable pub fresh : Cells
fresh = record {
  octets = replicate 49_152 0;
  entries = replicate 877 (record { len = 0; tag = None });
  places = record { head = 0; first = 0; count = 0; taken = 0; used = 0 };
}

-- the entry is that of the newest frame, whose octets end where the FIFO's do
pub record IsLast (c : Cells) (e : Entry) : Type 0 where
  pub tag : e.tag ≡ (last (shows c)).tag
  pub used : e.len ≤ c.places.used
  pub octets : ring_part c.octets (wrap 49_152 (c.places.head + (c.places.used - e.len))) e.len
      ≡ (last (shows c)).octets

-- the entry is that of the first frame
pub record IsFirst (c : Cells) (e : Entry) : Type 0 where
  pub len : e.len ≡ length (first (shows c)).octets
  pub tag : e.tag ≡ (first (shows c)).tag
  pub taken : (shows c).taken < e.len
  pub used : e.len ≤ c.places.used
