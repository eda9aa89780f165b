-- The texts of a driver's calls.
use Rattle.std.specs.Prelude.{ℕ, Bool, if◌then◌else◌, List, [], ◌∷◌, ◌++◌, codes}
use Rattle.em_text.specs.Writer.{hex_text, decimal_text, decimal_line_text, numbers_text}
use Rattle.em_driver.specs.Outcome.{name_of}
use Rattle.em_driver.specs.declared.outcome.Cause.{Cause}
use Rattle.em_driver.specs.declared.stats.DeviceStats.{DeviceStats}
use Rattle.em_script.specs.NoDriver.{name_of as name_of_no_driver}
use Rattle.em_output.specs.Output.{named_refusal_text}

-- a driver was started, with so many events
abbrev pub started_text : ℕ → List ℕ
started_text events = codes "started " ++ decimal_line_text events

-- so many packets were moved, with so many events
abbrev pub batch_text : ℕ → ℕ → List ℕ
batch_text count events = numbers_text (codes "batch ") count events (codes "\n")

-- a call stopped after so many packets and events
abbrev pub stopped_text : ℕ → ℕ → Cause → List ℕ
stopped_text count events cause =
    numbers_text (codes "stopped ") count events (codes " " ++ (name_of cause ++ codes "\n"))

-- packets received and sent, and octets
abbrev pub stats_text : DeviceStats → List ℕ
stats_text stats =
    codes "stats " ++ (decimal_text stats.rx_pkts ++ (codes " " ++ (decimal_text stats.tx_pkts
    ++ (codes " " ++ (decimal_text stats.rx_bytes ++ (codes " " ++ decimal_line_text stats.tx_bytes))))))

-- octets with colons between them
abbrev pub colon_text : List ℕ → List ℕ
colon_text [] = []
colon_text (octet ∷ []) = hex_text (octet ∷ [])
colon_text (octet ∷ next ∷ octets) = hex_text (octet ∷ []) ++ (codes ":" ++ colon_text (next ∷ octets))

abbrev pub address_text : List ℕ → List ℕ
address_text octets = colon_text octets ++ codes "\n"

-- what ends the line of the turns that a plan had: `Memory` where memory was refused to one
abbrev pub turns_end : Bool → List ℕ
turns_end starved = if starved then codes " Memory\n" else codes "\n"

-- so many turns were performed, and so many refused
abbrev pub turns_text : ℕ → ℕ → Bool → List ℕ
turns_text performed refused starved = numbers_text (codes "turns ") performed refused (turns_end starved)

-- of a call without a driver
abbrev pub no_driver_text : List ℕ
no_driver_text = named_refusal_text name_of_no_driver
