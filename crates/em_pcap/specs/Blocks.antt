-- Blocks of pcapng files.
use Rattle.std.specs.Prelude.{ℕ, ◌+◌, ◌*◌, ◌-◌, ◌^◌, ◌%◌, ◌==◌, ◌||◌, nat_lt, min, if◌then◌else◌, slice_get}
use Rattle.std.specs.Prelude.{slice_range}
use Rattle.std.specs.Prelude.{List, length, Option, Some, None}
use Rattle.em_pcap.specs.declared.order.Order.{Order}
use Rattle.em_pcap.specs.declared.order.Order.TheVariants.{Little, Big}
use Rattle.em_pcap.specs.declared.fault.FaultKind.{FaultKind}
use Rattle.em_pcap.specs.declared.fault.FaultKind.TheVariants.{Magic, Version, CutShort, BlockLength, LinkType}
use Rattle.em_pcap.specs.declared.fault.FaultKind.TheVariants.{CapturedLength, NoInterface}
use Rattle.em_pcap.specs.declared.form.Interface.{Interface}
use Rattle.em_pcap.specs.declared.form.Link.{Link}
use Rattle.em_pcap.specs.declared.form.Found.{Found}
use Rattle.em_pcap.specs.declared.form.Form.TheVariants.{Section}
use Rattle.em_pcap.specs.declared.form.Step.{Step}
use Rattle.em_pcap.specs.declared.form.Step.TheVariants.{Ends, Stops, Opens, Adds, Skips}
use Rattle.em_pcap.specs.Fields.{u16, u32}
use Rattle.em_pcap.specs.Classic.{is_beyond}
use Rattle.em_pcap.specs.Link.{link_of, frame_step}
use Rattle.em_pcap.specs.Options.{tick_of, fcs_of}

-- ---- any block: block_type, block_total_length, a body, and block_total_length again

abbrev pub block_type : Order → List ℕ → ℕ
block_type order block = u32 order 0 block

abbrev pub block_total_length : Order → List ℕ → ℕ
block_total_length order block = u32 order 4 block

abbrev pub total_length_again : Order → List ℕ → ℕ
total_length_again order block = u32 order (block_total_length order block - 4) block

-- the types that are read; that of a section header is the same in either order
abbrev pub section_header : ℕ
section_header = 0x0A0D0D0A

abbrev pub interface_description : ℕ
interface_description = 1

abbrev pub simple_packet : ℕ
simple_packet = 3

abbrev pub enhanced_packet : ℕ
enhanced_packet = 6

-- the octets of a block's fields, without packet and options
abbrev pub least_length : ℕ → ℕ
least_length kind =
    if kind == section_header then 28
    else if kind == interface_description then 20
    else if kind == simple_packet then 16
    else if kind == enhanced_packet then 32
    else 12

-- what is wrong with the length of a block, if anything
abbrev pub length_fault : Order → List ℕ → Option FaultKind
length_fault order octets =
    let len = block_total_length order octets in
    if nat_lt len (least_length (block_type order octets)) then Some BlockLength
    else if len % 4 == 0 then
    (if nat_lt (length octets) len then Some CutShort
    else if total_length_again order octets == len then None
    else Some BlockLength)
    else Some BlockLength

-- ---- a section header: byte_order_magic, major_version, minor_version, section_length, options

abbrev pub byte_order_magic : Order → List ℕ → ℕ
byte_order_magic order block = u32 order 8 block

abbrev pub major_version : Order → List ℕ → ℕ
major_version order block = u16 order 12 block

-- in which order a section header says that its section was written
abbrev pub section_order : List ℕ → Option Order
section_order block =
    if byte_order_magic Little block == 0x1A2B3C4D then Some Little
    else if byte_order_magic Big block == 0x1A2B3C4D then Some Big
    else None

-- in which order a block in a section of this order was written
abbrev pub order_of : Order → List ℕ → Option Order
order_of order block = if block_type Little block == section_header then section_order block else Some order

abbrev pub section_step : List ℕ → Order → List ℕ → Step
section_step own order block =
    if major_version order block == 1 then Opens (block_total_length order block) (Section order own)
    else Stops Version

-- ---- an interface description: link_type, reserved, snap_len, options

abbrev pub link_type : Order → List ℕ → ℕ
link_type order block = u16 order 8 block

abbrev pub snap_len : Order → List ℕ → ℕ
snap_len order block = u32 order 12 block

abbrev pub options : Order → List ℕ → List ℕ
options order block = slice_range block 16 (block_total_length order block - 4)

abbrev pub interface_of : Order → List ℕ → Link → Interface
interface_of order block link = record {
  snap = snap_len order block;
  link = link;
  tick = tick_of order (options order block);
}

-- an interface of which it is known what its packets are
abbrev pub described : Order → List ℕ → Option Link → Step
described order block None = Stops LinkType
described order block (Some link) = Adds (block_total_length order block) (interface_of order block link)

abbrev pub interface_step : List ℕ → Order → List ℕ → Step
interface_step own order block =
    described order block (link_of own (link_type order block) (fcs_of order (options order block)))

-- ---- packets

-- a packet of an interface, if it was described
abbrev pub of_interface : Option Interface → (Interface → Step) → Step
of_interface None step = Stops NoInterface
of_interface (Some interface) step = step interface

-- a packet of an interface, of which its snap length and so much room in the block allow so many octets
abbrev pub packet_step : Interface → ℕ → List ℕ → Found → Step
packet_step interface room block found =
    if is_beyond interface.snap found.captured || nat_lt room found.captured then Stops CapturedLength
    else frame_step interface.link block found

-- so many ticks of a clock in nanoseconds, where that is known and fits 64 bits
abbrev pub time_of : Option ℕ → ℕ → Option ℕ
time_of None ticks = None
time_of (Some tick) ticks = if nat_lt (ticks * tick) (2 ^ 64) then Some (ticks * tick) else None

-- an enhanced packet: interface_id, timestamp_high, timestamp_low, captured_packet_length, original_packet_length, the
-- packet, options

abbrev pub interface_id : Order → List ℕ → ℕ
interface_id order block = u32 order 8 block

abbrev pub timestamp_high : Order → List ℕ → ℕ
timestamp_high order block = u32 order 12 block

abbrev pub timestamp_low : Order → List ℕ → ℕ
timestamp_low order block = u32 order 16 block

abbrev pub captured_packet_length : Order → List ℕ → ℕ
captured_packet_length order block = u32 order 20 block

abbrev pub original_packet_length : Order → List ℕ → ℕ
original_packet_length order block = u32 order 24 block

abbrev pub enhanced_of : Order → List ℕ → Interface → Found
enhanced_of order block interface = record {
  len = block_total_length order block;
  at = 28;
  captured = captured_packet_length order block;
  original = original_packet_length order block;
  time = time_of interface.tick (timestamp_high order block * 0x100000000 + timestamp_low order block);
  header = None;
}

abbrev pub enhanced_in : Order → List ℕ → Interface → Step
enhanced_in order block interface =
    packet_step interface (block_total_length order block - 32) block (enhanced_of order block interface)

abbrev pub enhanced_step : Order → List Interface → List ℕ → Step
enhanced_step order interfaces block =
    of_interface (slice_get interfaces (interface_id order block)) (enhanced_in order block)

-- a simple packet: its original length, and the packet, of the first interface and as long as its snap length allows

abbrev pub simple_original_length : Order → List ℕ → ℕ
simple_original_length order block = u32 order 8 block

-- so many octets, or as many as a snap length allows
abbrev pub snapped : ℕ → ℕ → ℕ
snapped snap original = if snap == 0 then original else min original snap

abbrev pub simple_of : Order → List ℕ → Interface → Found
simple_of order block interface = record {
  len = block_total_length order block;
  at = 12;
  captured = snapped interface.snap (simple_original_length order block);
  original = simple_original_length order block;
  time = None;
  header = None;
}

abbrev pub simple_step : Order → List Interface → List ℕ → Step
simple_step order interfaces block =
    of_interface (slice_get interfaces 0)
    (λ interface. packet_step interface (block_total_length order block - 16) block (simple_of order block interface))

-- ---- what a block is

unfoldable pub body_step : List ℕ → Order → List Interface → List ℕ → Step
body_step own order interfaces block =
    let kind = block_type order block in
    if kind == section_header then section_step own order block
    else if kind == interface_description then interface_step own order block
    else if kind == simple_packet then simple_step order interfaces block
    else if kind == enhanced_packet then enhanced_step order interfaces block
    else Skips (block_total_length order block)

-- a block whose length is right
abbrev pub unless : Option FaultKind → Step → Step
unless None step = step
unless (Some fault) step = Stops fault

-- a block whose order is known
abbrev pub in_order : Option Order → (Order → Step) → Step
in_order None step = Stops Magic
in_order (Some order) step = step order

-- what stands at the front of these octets, in a section of this order with these interfaces
abbrev pub block_step : List ℕ → Order → List Interface → List ℕ → Step
block_step own order interfaces octets =
    if length octets == 0 then Ends
    else if nat_lt (length octets) 12 then Stops CutShort
    else in_order (order_of order octets)
    (λ order. unless (length_fault order octets) (body_step own order interfaces octets))
