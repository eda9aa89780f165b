-- A ring as text.
use Rattle.std.specs.Prelude.{ℕ, ◌+◌, ◌-◌, ◌==◌, min, nat_lt, if◌then◌else◌, Bool, List, [], ◌++◌, codes}
use Rattle.std.specs.Prelude.{decimal}
use Rattle.std.specs.List.{flat_map, range_with_len}
use Rattle.em_mem.specs.Memory.{leaves}
use Rattle.em_inspect.specs.declared.ring.Side.{Side}
use Rattle.em_inspect.specs.declared.ring.Side.TheVariants.{Receive, Transmit}
use Rattle.em_inspect.specs.declared.ring.SidedRing.{SidedRing}
use Rattle.em_inspect.specs.AddressText.{address_text}
use Rattle.em_inspect.specs.Piece.{buffers_text}
use Rattle.em_inspect.specs.Trouble.{descriptor_in}
use Rattle.em_inspect.specs.DescriptorText.{descriptor_text}

abbrev pub side_text : Side → List ℕ
side_text (Receive size) = codes "rx"
side_text Transmit = codes "tx"

abbrev pub enabled_text : Bool → List ℕ
enabled_text enabled = if enabled then codes "  enabled" else codes "  disabled"

abbrev pub memory_text : Bool → List ℕ
memory_text outside = if outside then codes "  outside memory" else []

-- how the head or the tail is marked, or that it stands past the last descriptor
abbrev pub place_text : SidedRing → ℕ → List ℕ → List ℕ
place_text r place mark = if nat_lt place r.setup.count then mark else codes " past the last"

-- the line of a ring without descriptors
abbrev pub empty_line : SidedRing → List ℕ
empty_line r =
    side_text r.side
    ++ (codes " ring at "
    ++ (address_text r.setup.base ++ (codes "  no descriptors" ++ (enabled_text r.setup.enabled ++ codes "\n"))))

-- the line of one with descriptors
abbrev pub full_line : SidedRing → Bool → List ℕ
full_line r outside =
    side_text r.side
    ++ (codes " ring at "
    ++ (address_text r.setup.base
    ++ (codes "  "
    ++ (decimal r.setup.count
    ++ (codes " descriptors  head "
    ++ (decimal r.setup.head
    ++ (place_text r r.setup.head (codes " (>)")
    ++ (codes "  tail "
    ++ (decimal r.setup.tail
    ++ (place_text r r.setup.tail (codes " (<)")
    ++ (buffers_text r.side
    ++ (enabled_text r.setup.enabled
    ++ (memory_text outside ++ codes "\n")))))))))))))

abbrev pub ring_line : SidedRing → Bool → List ℕ
ring_line r outside = if r.setup.count == 0 then empty_line r else full_line r outside

-- descriptor 0 lies outside guest memory, or part of it does
abbrev pub is_outside : SidedRing → ℕ → List ℕ → Bool
is_outside r base memory = leaves base memory r.setup.base 16

-- the line of descriptor i
abbrev pub line_of_index : SidedRing → ℕ → List ℕ → ℕ → List ℕ
line_of_index r base memory i = descriptor_text (descriptor_in r base memory i)

-- the lines of n descriptors, from an index on
abbrev pub descriptors_text : SidedRing → ℕ → List ℕ → ℕ → ℕ → List ℕ
descriptors_text r base memory from n = flat_map (λ k. line_of_index r base memory (from + k)) (range_with_len 0 n)

-- how many descriptors are shown, of so many from an index on
abbrev pub shown : SidedRing → Bool → ℕ → ℕ → ℕ
shown r outside from most = if outside then 0 else min most (r.setup.count - from)

-- the ring's line, and those of descriptors
abbrev pub ring_text : SidedRing → ℕ → List ℕ → ℕ → ℕ → List ℕ
ring_text r base memory from most =
    let outside = is_outside r base memory in
    ring_line r outside ++ descriptors_text r base memory from (shown r outside from most)

-- the first of 64 descriptors to show: eight before the head, or so many before the ring's end
abbrev pub shown_from : SidedRing → ℕ
shown_from r = min (r.setup.head - 8) (r.setup.count - 64)
