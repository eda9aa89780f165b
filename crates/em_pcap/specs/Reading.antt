-- What a capture gives: its packets up to its end, or to its first fault.
use Rattle.std.specs.Prelude.{◌≡◌, ℕ, zero, suc, ◌+◌, ◌-◌, ◌==◌, ◌++◌, nat_lt, if◌then◌else◌, List, [], ◌∷◌, length}
use Rattle.std.specs.Prelude.{take, drop}
use Rattle.std.specs.Prelude.{Option, Some, None, Result, Ok, Err}
use Rattle.em_pcap.specs.declared.order.Order.{Order}
use Rattle.em_pcap.specs.declared.order.Order.TheVariants.{Little}
use Rattle.em_pcap.specs.declared.fault.FaultKind.{FaultKind}
use Rattle.em_pcap.specs.declared.fault.FaultKind.TheVariants.{Magic, CutShort}
use Rattle.em_pcap.specs.declared.fault.CaptureFault.{CaptureFault}
use Rattle.em_pcap.specs.declared.fault.CaptureError.{CaptureError}
use Rattle.em_pcap.specs.declared.fault.CaptureError.TheVariants.{Fault, Memory}
use Rattle.em_pcap.specs.declared.form.Unit.{Unit as TimeUnit}
use Rattle.em_pcap.specs.declared.form.Form.{Form}
use Rattle.em_pcap.specs.declared.form.Form.TheVariants.{Start, Classic, Section, Done}
use Rattle.em_pcap.specs.declared.form.Interface.{Interface}
use Rattle.em_pcap.specs.declared.form.Found.{Found}
use Rattle.em_pcap.specs.declared.form.Step.{Step}
use Rattle.em_pcap.specs.declared.form.Step.TheVariants.{Ends, Stops, Gives, Opens, Adds, Skips}
use Rattle.em_pcap.specs.declared.packet.Packet.{Packet}
use Rattle.em_pcap.specs.Frame.{Frame, frame_of, header_octets}
use Rattle.em_pcap.specs.Classic.{magic_of, header_step, record_step}
use Rattle.em_pcap.specs.Blocks.{block_type, section_header, block_step}

-- the packets, and the fault behind them if there is one
pub record Reading : Type 0 where
  pub packets : List Frame
  pub fault : Option CaptureFault

abbrev pub nothing : Reading
nothing = record { packets = []; fault = None }

abbrev pub stopped : FaultKind → ℕ → Reading
stopped kind offset = record { packets = []; fault = Some (record { kind = kind; offset = offset }) }

abbrev pub and_then : Frame → Reading → Reading
and_then frame reading = record { packets = frame ∷ reading.packets; fault = reading.fault }

-- ---- the front of a file: its magic number says which form it has

abbrev pub classic_start : List ℕ → Option (Order × TimeUnit) → List ℕ → Step
classic_start own None file = Stops Magic
classic_start own (Some said) file = header_step own said.0 said.1 file

abbrev pub start_step : List ℕ → List ℕ → Step
start_step own file =
    if nat_lt (length file) 4 then Stops CutShort
    else if block_type Little file == section_header then block_step own Little [] file
    else classic_start own (magic_of file) file

-- ---- what stands at a place of a file, and what the rest of the file gives

unfoldable pub step_of : Form → List Interface → List ℕ → Step
step_of (Start own) interfaces octets = start_step own octets
step_of (Classic header) interfaces octets = record_step header octets
step_of (Section order own) interfaces octets = block_step own order interfaces octets
step_of Done interfaces octets = Ends

-- the packet that lies there in these octets
abbrev pub found_in : Found → List ℕ → Frame
found_in found octets =
    record {
      octets = header_octets found.header ++ take found.captured (drop found.at octets);
      original = found.original;
      time = found.time;
    }

-- what a step gives with all that is behind it: `rest form interfaces inside` is what comes behind the first octet,
-- where `inside` more octets belong to the step
abbrev pub with_rest : Form → List Interface → ℕ → List ℕ → (Form → List Interface → ℕ → Reading) → Step → Reading
with_rest form interfaces offset octets rest Ends = nothing
with_rest form interfaces offset octets rest (Stops kind) = stopped kind offset
with_rest form interfaces offset octets rest (Gives found) =
    and_then (found_in found octets) (rest form interfaces (found.len - 1))
with_rest form interfaces offset octets rest (Opens len form') = rest form' [] (len - 1)
with_rest form interfaces offset octets rest (Adds len interface) = rest form (interfaces ++ interface ∷ []) (len - 1)
with_rest form interfaces offset octets rest (Skips len) = rest form interfaces (len - 1)

-- what a file gives from an offset on, where the first `inside` octets there belong to a step before
abbrev pub reading_from : Form → List Interface → ℕ → ℕ → List ℕ → Reading
reading_from form interfaces (suc inside) offset [] = nothing
reading_from form interfaces (suc inside) offset (octet ∷ octets) =
    reading_from form interfaces inside (offset + 1) octets
reading_from form interfaces zero offset [] =
    with_rest form interfaces offset [] (λ _ _ _. nothing) (step_of form interfaces [])
reading_from form interfaces zero offset (octet ∷ octets) =
    with_rest form interfaces offset (octet ∷ octets)
    (λ form interfaces inside. reading_from form interfaces inside (offset + 1) octets)
    (step_of form interfaces (octet ∷ octets))

-- what a file gives that was captured by a machine of this address
abbrev pub reading_of : List ℕ → List ℕ → Reading
reading_of own file = reading_from (Start own) [] 0 0 file

-- ---- one packet after another

-- what a call gave, where `before` was left to give, and `after` is left now. Where memory was refused, nothing is
abbrev pub IsNext : Reading → Option (Result Packet CaptureError) → Reading → Type 0
IsNext before None after = (before ≡ nothing) × (after ≡ nothing)
IsNext before (Some (Ok packet)) after = before ≡ and_then (frame_of packet) after
IsNext before (Some (Err (Fault fault))) after =
    (before ≡ record { packets = []; fault = Some fault }) × (after ≡ nothing)
IsNext before (Some (Err Memory)) after = after ≡ nothing
