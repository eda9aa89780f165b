-- A capture that is read, as far as it is read.
use Rattle.std.specs.Prelude.{◌≡◌, ℕ, zero, suc, ◌+◌, ◌-◌, Bool, true, false, List, [], ◌∷◌, drop, length}
use Rattle.std.specs.Prelude.{Option, Some, Result, Err}
use Rattle.std.specs.Iterator.{Count, at_most}
use Rattle.em_pcap.specs.declared.form.Form.{Form}
use Rattle.em_pcap.specs.declared.form.Form.TheVariants.{Start, Classic, Section, Done}
use Rattle.em_pcap.specs.declared.form.Interface.{Interface}
use Rattle.em_pcap.specs.declared.form.Step.{Step}
use Rattle.em_pcap.specs.declared.form.Step.TheVariants.{Ends, Stops, Gives, Opens, Adds, Skips}
use Rattle.em_pcap.specs.declared.fault.CaptureError.{CaptureError}
use Rattle.em_pcap.specs.declared.fault.CaptureError.TheVariants.{Memory}
use Rattle.em_pcap.specs.declared.packet.Packet.{Packet}
use Rattle.em_pcap.specs.declared.capture.Capture.{Capture}
use Rattle.em_pcap.specs.Reading.{Reading, step_of, reading_from, IsNext}

-- what is left to give
abbrev pub left_of : Capture → Reading
left_of capture =
    reading_from capture.form capture.interfaces.items 0 capture.offset (drop capture.offset capture.file.now)

-- ---- where memory is taken: where the description of an interface stands before the next packet

abbrev pub adds_in : Form → List Interface → (Form → List Interface → ℕ → Bool) → Step → Bool
adds_in form interfaces rest Ends = false
adds_in form interfaces rest (Stops kind) = false
adds_in form interfaces rest (Gives found) = false
adds_in form interfaces rest (Opens len form') = rest form' [] (len - 1)
adds_in form interfaces rest (Adds len interface) = true
adds_in form interfaces rest (Skips len) = rest form interfaces (len - 1)

-- in these octets, of which the first `inside` belong to a step before
abbrev pub adds_from : Form → List Interface → ℕ → List ℕ → Bool
adds_from form interfaces (suc inside) [] = false
adds_from form interfaces (suc inside) (octet ∷ octets) = adds_from form interfaces inside octets
adds_from form interfaces zero [] = adds_in form interfaces (λ _ _ _. false) (step_of form interfaces [])
adds_from form interfaces zero (octet ∷ octets) =
    adds_in form interfaces (λ form interfaces inside. adds_from form interfaces inside octets)
    (step_of form interfaces (octet ∷ octets))

abbrev pub adds_next : Capture → Bool
adds_next capture = adds_from capture.form capture.interfaces.items 0 (drop capture.offset capture.file.now)

-- memory is refused only there
abbrev pub IsRefusedThere : Capture → Option (Result Packet CaptureError) → Type 0
IsRefusedThere capture given = given ≡ Some (Err Memory) → adds_next capture ≡ true

-- ---- how many calls can still give something: each passes an octet, or is the last

abbrev pub calls_in : Form → ℕ → ℕ
calls_in Done octets = 0
calls_in (Start own) octets = octets + 1
calls_in (Classic header) octets = octets + 1
calls_in (Section order own) octets = octets + 1

abbrev pub calls_left : Capture → ℕ
calls_left capture = calls_in capture.form (length capture.file.now - capture.offset)

-- ---- as an iterator

abbrev pub GivesNext : Capture → Option (Result Packet CaptureError) → Capture → Type 0
GivesNext before given after = IsNext (left_of before) given (left_of after) × IsRefusedThere before given

abbrev pub packets_left : Capture → Count
packets_left capture = at_most (calls_left capture)
