-- The frames of a capture as lines of a script that bring them.
use Rattle.std.specs.Prelude.{◌≡◌, ℕ, ◌+◌, min, Bool, true, false, ◌&&◌, nat_lt, if◌then◌else◌, List, [], ◌∷◌}
use Rattle.std.specs.Prelude.{◌++◌, codes, filter, length, map}
use Rattle.std.specs.Prelude.{Option, Some, None}
use Rattle.em_text.specs.Writer.{hex_text}
use Rattle.em_turn.specs.Planned.{lists}
use Rattle.em_pcap.specs.declared.fault.CaptureError.{CaptureError}
use Rattle.em_pcap.specs.declared.fault.CaptureError.TheVariants.{Fault, Memory}
use Rattle.em_pcap.specs.Frame.{Frame, cut_of}
use Rattle.em_pcap.specs.Reading.{Reading, nothing}
use Rattle.em_frames.specs.declared.arrivals.Arrivals.{Arrivals}

-- it had fewer than 60 octets, as no frame on a wire has without its check sequence: it was captured before it was padded
abbrev pub is_unpadded : Frame → Bool
is_unpadded frame = nat_lt frame.original 60 && nat_lt (length frame.octets) 60

-- what lengthens it by zero octets
abbrev pub padding_text : Bool → List ℕ
padding_text unpadded = if unpadded then codes " 60" else []

-- the line that brings a frame: what was captured of it, and how long it is where it is padded
abbrev pub arrival_of : Frame → List ℕ
arrival_of frame = codes "arrive " ++ (hex_text frame.octets ++ padding_text (is_unpadded frame))

-- fewer octets were captured than the frame had
abbrev pub is_some : {T : Type 0} → Option T → Bool
is_some None = false
is_some (Some value) = true

abbrev pub is_cut : Frame → Bool
is_cut frame = is_some (cut_of frame)

-- a number as it is counted in 64 bits
abbrev pub counted : ℕ → ℕ
counted n = min n 0xFFFF_FFFF_FFFF_FFFF

-- how many are cut, with one frame more
abbrev pub with_frame : ℕ → Frame → ℕ
with_frame cut frame = if is_cut frame then counted (cut + 1) else cut

-- how many are padded, with one frame more
abbrev pub with_padded : ℕ → Frame → ℕ
with_padded padded frame = if is_unpadded frame then counted (padded + 1) else padded

-- one frame more; or memory was refused, and there is none more
abbrev pub Adds : Frame → Arrivals → Arrivals → Bool → Type 0
Adds frame old new true =
    (lists new.lines.items ≡ lists old.lines.items ++ arrival_of frame ∷ []) × ((new.error ≡ old.error)
    × ((new.cut ≡ with_frame old.cut frame) × (new.padded ≡ with_padded old.padded frame)))
Adds frame old new false =
    (new.lines.items ≡ old.lines.items) × ((new.cut ≡ old.cut) × (new.padded ≡ old.padded))

-- why there are no more: the capture's end, its fault, or that memory was refused
abbrev pub EndsBy : Option CaptureError → Reading → Type 0
EndsBy None rest = rest ≡ nothing
EndsBy (Some (Fault fault)) rest = rest ≡ record { packets = []; fault = Some fault }
EndsBy (Some Memory) rest = Unit {0}

-- the frames that a capture gives, each as a line, how many of them are cut, how many are padded, and what came behind them
pub record AreArrivals (reading : Reading) (a : Arrivals) : Type 0 where
  pub given : List Frame
  pub rest : Reading
  pub all : reading ≡ record { packets = given ++ rest.packets; fault = rest.fault }
  pub lines : lists a.lines.items ≡ map arrival_of given
  pub cut : a.cut ≡ counted (length (filter is_cut given))
  pub padded : a.padded ≡ counted (length (filter is_unpadded given))
  pub ended : EndsBy a.error rest
