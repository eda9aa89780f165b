-- Why a frame was dropped.
use Rattle.std.specs.Prelude.{◌≡◌, ℕ, ◌+◌, ◌%◌, ◌&&◌, nat_lt, not, Bool, true, false, List, [], ◌∷◌, length, slice_index, Option}
use Rattle.std.specs.Prelude.{if◌then◌else◌}
use Rattle.em_address.specs.declared.kind.Kind.{Kind}
use Rattle.em_address.specs.declared.kind.Kind.TheVariants as kind
use Rattle.em_address.specs.Kind.{destination, kind_of}
use Rattle.em_filter.specs.Address.{hash_of}
use Rattle.em_filter.specs.Bits.{is_second}
use Rattle.em_filter.specs.Control.{is_other_control, passes_dpf}
use Rattle.em_filter.specs.Filters.{longest, passes_address}
use Rattle.em_filter.specs.Vlan.{cfi_of, passes_cfi, passes_vlan, tag_of}
use Rattle.em_regs.specs.declared.profile.Profile.{Profile}
use Rattle.em_regs.specs.declared.profile.Profile.TheVariants.{Table, Adapter}
use Rattle.em_regs.specs.Storage.{Registers}
use Rattle.em_rx.specs.Frame.{len_of}
use Rattle.em_step.specs.Arrival.{arrival, is_enabled, kept_frame, lacks_room}
use Rattle.em_step.specs.State.{State}
use Rattle.em_step.specs.declared.event.Answer.TheVariants as answer
use Rattle.em_step.specs.declared.event.Reason.{Reason}
use Rattle.em_step.specs.declared.event.Reason.TheVariants as reason
use Rattle.em_reasons.specs.declared.dropped.Dropped.{Dropped}
use Rattle.em_reasons.specs.declared.dropped.Dropped.TheVariants.{Down, Disabled, Unicast, Multicast, Broadcast, Control}
use Rattle.em_reasons.specs.declared.dropped.Dropped.TheVariants.{Undersize, Oversize, Overlong, Vlan, Cfi, Pause, Missed}
use Rattle.em_reasons.specs.Table.{first_of}

-- the first six octets of a frame, and the next six
abbrev pub to_of : List ℕ → List ℕ
to_of f =
    slice_index f 0 ∷ slice_index f 1 ∷ slice_index f 2 ∷ slice_index f 3 ∷ slice_index f 4 ∷ slice_index f 5 ∷ []

abbrev pub from_of : List ℕ → List ℕ
from_of f =
    slice_index f 6 ∷ slice_index f 7 ∷ slice_index f 8 ∷ slice_index f 9 ∷ slice_index f 10 ∷ slice_index f 11 ∷ []

-- no filter has the destination, of these octets, which is of this kind
abbrev pub unfiltered_by : Kind → Registers → List ℕ → Dropped
unfiltered_by kind.Unicast m to = Unicast to
unfiltered_by kind.Multicast m to = Multicast to (hash_of m (destination to))
unfiltered_by kind.Broadcast m to = Broadcast (hash_of m (destination to))

-- nor is it taken as a MAC control frame, where it is one and the second profile looks at that
abbrev pub unfiltered_so : Bool → Registers → List ℕ → Dropped
unfiltered_so true m to = Control to (hash_of m (destination to))
unfiltered_so false m to = unfiltered_by (kind_of (destination to)) m to

abbrev pub unfiltered : Profile → Registers → List ℕ → Dropped
unfiltered p m f = unfiltered_so (is_second p && is_other_control f) m (to_of f)

-- a frame of so many octets is too long: the second profile looks at SBP, too
abbrev pub too_long_by : Profile → ℕ → ℕ → Dropped
too_long_by Table n most = Oversize n most
too_long_by Adapter n most = Overlong n most

abbrev pub too_long : State → ℕ → Dropped
too_long s n = too_long_by s.profile n (longest s.profile s.registers)

-- the VLAN filter does not let the frame pass
abbrev pub unlisted : List ℕ → Dropped
unlisted f = Vlan (tag_of f % 4096)

-- the link is down, RCTL.EN is clear, the address filter does not take the frame, the octets with the four of the frame
-- check sequence are below 64, or above the most that there may be, the VLAN filter does not let the frame pass, in the
-- second profile its CFI is another one or it is a pause frame, and the FIFO has no room for it
abbrev pub drop_table : State → List ℕ → List (Bool × Dropped)
drop_table s f =
    (not s.link, Down)
    ∷ (not (is_enabled s), Disabled)
    ∷ (not (passes_address s.profile s.registers f), unfiltered s.profile s.registers f)
    ∷ (nat_lt (length f + 4) 64, Undersize (length f + 4))
    ∷ (nat_lt (longest s.profile s.registers) (length f + 4), too_long s (length f + 4))
    ∷ (not (passes_vlan s.registers f), unlisted f)
    ∷ (not (passes_cfi s.profile s.registers f), Cfi (cfi_of f))
    ∷ (not (passes_dpf s.profile s.registers f), Pause)
    ∷ (lacks_room s f, Missed (len_of (kept_frame s f)) (length s.fifo.frames))
    ∷ []

-- why a frame that arrives is dropped, if it is
abbrev pub why : State → List ℕ → Option Dropped
why s f = first_of (drop_table s f)

-- why the filters reject a frame: by its address, or else by its VLAN, its CFI, or as a pause frame
abbrev pub rejected : Profile → Registers → List ℕ → Dropped
rejected p m f =
    if not (passes_address p m f) then unfiltered p m f
    else if not (passes_vlan m f) then unlisted f
    else if not (passes_cfi p m f) then Cfi (cfi_of f)
    else Pause

-- which of the adapter's answers it is
abbrev pub reason_of : Dropped → Reason
reason_of Down = reason.Down
reason_of Disabled = reason.Disabled
reason_of (Unicast to) = reason.Rejected
reason_of (Multicast to hash) = reason.Rejected
reason_of (Broadcast hash) = reason.Rejected
reason_of (Control to hash) = reason.Rejected
reason_of (Undersize octets) = reason.Undersize
reason_of (Oversize octets most) = reason.Oversize
reason_of (Overlong octets most) = reason.Oversize
reason_of (Vlan identifier) = reason.Rejected
reason_of (Cfi cfi) = reason.Rejected
reason_of Pause = reason.Rejected
reason_of (Missed octets frames) = reason.Missed

-- the adapter drops the frame, and answers so
abbrev pub IsDropped : State → List ℕ → Reason → Type 0
IsDropped s f r = (arrival s f).0 ≡ answer.Dropped r
