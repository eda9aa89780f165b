-- Classic capture files: a file header, and records.
use Rattle.std.specs.Prelude.{ℕ, ◌+◌, ◌*◌, ◌==◌, ◌&&◌, nat_lt, Bool, if◌then◌else◌, List, length, Option, Some, None}
use Rattle.em_pcap.specs.declared.order.Order.{Order}
use Rattle.em_pcap.specs.declared.order.Order.TheVariants.{Little, Big}
use Rattle.em_pcap.specs.declared.fault.FaultKind.TheVariants.{Version, CutShort, LinkType, CapturedLength}
use Rattle.em_pcap.specs.declared.form.Unit.{Unit as TimeUnit}
use Rattle.em_pcap.specs.declared.form.Unit.TheVariants.{Microseconds, Nanoseconds}
use Rattle.em_pcap.specs.declared.form.Header.{Header}
use Rattle.em_pcap.specs.declared.form.Link.{Link}
use Rattle.em_pcap.specs.declared.form.Form.TheVariants.{Classic}
use Rattle.em_pcap.specs.declared.form.Step.{Step}
use Rattle.em_pcap.specs.declared.form.Step.TheVariants.{Ends, Stops, Opens}
use Rattle.em_pcap.specs.Fields.{u16, u32}
use Rattle.em_pcap.specs.Link.{link_in_network, frame_step}

-- ---- the file header: 24 octets

abbrev pub magic_number : Order → List ℕ → ℕ
magic_number order file = u32 order 0 file

abbrev pub version_major : Order → List ℕ → ℕ
version_major order file = u16 order 4 file

abbrev pub version_minor : Order → List ℕ → ℕ
version_minor order file = u16 order 6 file

abbrev pub thiszone : Order → List ℕ → ℕ
thiszone order file = u32 order 8 file

abbrev pub sigfigs : Order → List ℕ → ℕ
sigfigs order file = u32 order 12 file

abbrev pub snaplen : Order → List ℕ → ℕ
snaplen order file = u32 order 16 file

abbrev pub network : Order → List ℕ → ℕ
network order file = u32 order 20 file

-- the magic number says in which order the file was written, and what its times count within a second
abbrev pub magic_of : List ℕ → Option (Order × TimeUnit)
magic_of file =
    if magic_number Little file == 0xA1B2C3D4 then Some (Little, Microseconds)
    else if magic_number Little file == 0xA1B23C4D then Some (Little, Nanoseconds)
    else if magic_number Big file == 0xA1B2C3D4 then Some (Big, Microseconds)
    else if magic_number Big file == 0xA1B23C4D then Some (Big, Nanoseconds)
    else None

-- what the header says of the records, where it is known what their packets are
abbrev pub opens : Order → TimeUnit → ℕ → Option Link → Step
opens order unit snap None = Stops LinkType
opens order unit snap (Some link) =
    Opens 24 (Classic (record { order = order; unit = unit; snap = snap; link = link }))

-- version 2.x, Ethernet or cooked packets
abbrev pub header_step : List ℕ → Order → TimeUnit → List ℕ → Step
header_step own order unit file =
    if nat_lt (length file) 24 then Stops CutShort
    else if version_major order file == 2
    then opens order unit (snaplen order file) (link_in_network own (network order file))
    else Stops Version

-- ---- a record: a header of 16 octets, and as many octets of a packet as incl_len says

abbrev pub ts_sec : Order → List ℕ → ℕ
ts_sec order octets = u32 order 0 octets

-- ts_usec or ts_nsec
abbrev pub ts_fraction : Order → List ℕ → ℕ
ts_fraction order octets = u32 order 4 octets

abbrev pub incl_len : Order → List ℕ → ℕ
incl_len order octets = u32 order 8 octets

abbrev pub orig_len : Order → List ℕ → ℕ
orig_len order octets = u32 order 12 octets

abbrev pub nanoseconds_of : TimeUnit → ℕ
nanoseconds_of Microseconds = 1000
nanoseconds_of Nanoseconds = 1

-- more octets were captured than a snap length allows; 0 allows any number
abbrev pub is_beyond : ℕ → ℕ → Bool
is_beyond snap captured = nat_lt 0 snap && nat_lt snap captured

abbrev pub record_step : Header → List ℕ → Step
record_step header octets =
    let order = header.order in
    let captured = incl_len order octets in
    if length octets == 0 then Ends
    else if nat_lt (length octets) 16 then Stops CutShort
    else if is_beyond header.snap captured then Stops CapturedLength
    else if nat_lt (length octets) (16 + captured) then Stops CutShort
    else frame_step header.link octets (record {
      len = 16 + captured;
      at = 16;
      captured = captured;
      original = orig_len order octets;
      time = Some (ts_sec order octets * 1000000000 + ts_fraction order octets * nanoseconds_of header.unit);
      header = None;
    })
