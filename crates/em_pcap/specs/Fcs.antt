-- Frame check sequences that a capture has behind its frames.
use Rattle.std.specs.Prelude.{ℕ, ◌-◌, ◌==◌, ◌||◌, if◌then◌else◌, List, [], ◌∷◌, Option, Some, None}
use Rattle.em_pcap.specs.declared.form.Found.{Found}

-- of how many octets, by the field network of a classic file: the link type in bits 15:0, which is Ethernet's, and where
-- f, bit 26, is set, how many words of 16 bits in bits 31:28. Ethernet's has 4 octets
abbrev pub fcs_in_network : ℕ → Option ℕ
fcs_in_network network =
    if (network == 0x00000001) || (network == 0x04000001) then Some 0
    else if network == 0x24000001 then Some 4
    else None

-- if_fcslen: the frame check sequence of an interface's frames
abbrev pub if_fcslen : ℕ
if_fcslen = 13

-- of an if_fcslen, whose example is in octets, and whose words say that it is in bits
abbrev pub fcs_in : List ℕ → Option ℕ
fcs_in [] = None
fcs_in (len ∷ []) = if len == 0 then Some 0 else if (len == 4) || (len == 32) then Some 4 else None
fcs_in (len ∷ more ∷ octets) = None

-- a packet without so many octets at its end, as far as these were captured
abbrev pub without_fcs : ℕ → Found → Found
without_fcs fcs found = record {
  len = found.len;
  at = found.at;
  captured = found.captured - (fcs - (found.original - found.captured));
  original = found.original - fcs;
  time = found.time;
  header = found.header;
}
