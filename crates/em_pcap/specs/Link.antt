-- What the packets of a capture are, and the frame that each is.
use Rattle.std.specs.Prelude.{ℕ, ◌==◌, if◌then◌else◌, List, Option, Some, None, option_map}
use Rattle.em_pcap.specs.declared.cooked.Cooking.{Cooking}
use Rattle.em_pcap.specs.declared.form.Link.{Link}
use Rattle.em_pcap.specs.declared.form.Link.TheVariants.{Ethernet, Cooked}
use Rattle.em_pcap.specs.declared.form.Found.{Found}
use Rattle.em_pcap.specs.declared.form.Step.{Step}
use Rattle.em_pcap.specs.declared.form.Step.TheVariants.{Gives}
use Rattle.em_pcap.specs.Fcs.{fcs_in_network, without_fcs}
use Rattle.em_pcap.specs.Cooked.{cooking_of, uncooked_step}

-- cooked packets, where they are; else what else is said. `own` is the address of who captured them
abbrev pub cooked_or : List ℕ → Option Cooking → Option Link → Option Link
cooked_or own None else' = else'
cooked_or own (Some cooking) else' = Some (Cooked cooking own)

-- Ethernet with a frame check sequence of so many octets, where it is known how many
abbrev pub ethernet_of : Option ℕ → Option Link
ethernet_of fcs = option_map Ethernet fcs

-- by the field network of a classic file
abbrev pub link_in_network : List ℕ → ℕ → Option Link
link_in_network own network = cooked_or own (cooking_of network) (ethernet_of (fcs_in_network network))

-- by the link type of an interface, and by its frame check sequence if it is of Ethernet
abbrev pub link_of : List ℕ → ℕ → Option ℕ → Option Link
link_of own kind fcs = if kind == 1 then ethernet_of fcs else cooked_or own (cooking_of kind) None

-- the frame that a packet in these octets is
abbrev pub frame_step : Link → List ℕ → Found → Step
frame_step (Ethernet fcs) octets found = Gives (without_fcs fcs found)
frame_step (Cooked cooking own) octets found = uncooked_step cooking own octets found
