-- The kinds of destination addresses.
use Rattle.std.specs.Prelude.{ℕ, ◌+◌, ◌*◌, ◌^◌, ◌%◌, ◌==◌, Bool, true, false, List, slice_index, if◌then◌else◌}
use Rattle.em_address.specs.declared.kind.Kind.{Kind}
use Rattle.em_address.specs.declared.kind.Kind.TheVariants.{Unicast, Multicast, Broadcast}

-- the destination of a frame, its first six octets, as one number: octet 0 is the lowest
unfoldable pub destination : List ℕ → ℕ
destination f =
    slice_index f 0 + slice_index f 1 * 256 + slice_index f 2 * 256 ^ 2
    + slice_index f 3 * 256 ^ 3 + slice_index f 4 * 256 ^ 4 + slice_index f 5 * 256 ^ 5

-- its source, the next six
unfoldable pub source : List ℕ → ℕ
source f =
    slice_index f 6 + slice_index f 7 * 256 + slice_index f 8 * 256 ^ 2
    + slice_index f 9 * 256 ^ 3 + slice_index f 10 * 256 ^ 4 + slice_index f 11 * 256 ^ 5

-- broadcast where all six octets are FF, a group address where bit 0 of octet 0 is 1, and unicast otherwise
unfoldable pub kind_of : ℕ → Kind
kind_of a = if a == 0xFFFF_FFFF_FFFF then Broadcast else if (a % 2) == 1 then Multicast else Unicast

abbrev pub is_unicast : Kind → Bool
is_unicast Unicast = true
is_unicast Multicast = false
is_unicast Broadcast = false

-- a broadcast address is a group address too
abbrev pub is_group : Kind → Bool
is_group Unicast = false
is_group Multicast = true
is_group Broadcast = true

abbrev pub is_broadcast : Kind → Bool
is_broadcast Unicast = false
is_broadcast Multicast = false
is_broadcast Broadcast = true
