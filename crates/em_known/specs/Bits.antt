-- The bits of a register in which an answer may differ for a known cause. Source: this project's profile, docs/traces.md.
use Rattle.std.specs.Prelude.{ℕ, ◌==◌, ◌&&◌, nat_le, bit_and, bit_or, bit_xor, if◌then◌else◌, Bool, ◌-◌, ◌/◌, ◌%◌}
use Rattle.em_regs.specs.declared.profile.Profile.{Profile}
use Rattle.em_regs.specs.declared.profile.Profile.TheVariants.{Table, Adapter}
use Rattle.em_regs.specs.declared.reg.Reg.{Reg}
use Rattle.em_regs.specs.declared.reg.Reg.TheVariants as reg
use Rattle.em_known.specs.declared.causes.Causes.{Causes}

abbrev pub when : Bool → ℕ → ℕ
when is_so bits = if is_so then bits else 0

abbrev pub unless : Bool → ℕ → ℕ
unless is_so bits = if is_so then 0 else bits

-- a cause of the first profile alone: the second one has the start values, bits and widths of QEMU's
abbrev pub in_first : Profile → ℕ → ℕ
in_first Table bits = bits
in_first Adapter bits = 0

-- a word of the EEPROM besides the address
abbrev pub is_unheld : ℕ → Bool
is_unheld word = nat_le 3 word && nat_le word 63

-- QEMU keeps nothing of what is written there
abbrev pub if_zero : ℕ → ℕ
if_zero wanted = when (wanted == 0) 0xFFFFFFFF

-- another device has 16 bits there
abbrev pub if_narrow : ℕ → ℕ
if_narrow wanted = when (wanted / 65536 == 0) 0xFFFF0000

-- engines that run by themselves have sent frames
abbrev pub of_sending : Causes → ℕ
of_sending c = when c.tdt 0xFFFFFFFF

-- frames may have arrived
abbrev pub of_receiving : Causes → ℕ
of_receiving c = when c.enabled 0xFFFFFFFF

-- EECD: QEMU grants without a request (GNT, bit 7), has FWE (5:4) clear at first, and a word of its own in most places,
-- which DO (3) gives while CS (1) is set
abbrev pub of_pins : ℕ → ℕ → ℕ
of_pins wanted here =
    bit_or (bit_or 0x80 (when (here / 16 % 4 == 1 && wanted / 16 % 4 == 0) 0x30)) (when (here / 2 % 2 == 1) 0x8)

abbrev pub known_bits : Profile → Causes → Reg → ℕ → ℕ → ℕ
known_bits p c reg.Ctrl wanted here = in_first p (unless c.ctrl 0x00FC1BE1)
known_bits p c reg.Ledctl wanted here = in_first p (unless c.ledctl 0xFFFFFFFF)
known_bits p c reg.Pba wanted here = in_first p (unless c.pba 0x007F007F)
known_bits p c reg.Vet wanted here = in_first p (unless c.vet 0x0000FFFF)
known_bits p c reg.Status wanted here = in_first p 0x80080700
known_bits p c reg.Eerd wanted here = when (is_unheld (here / 256 % 256)) 0xFFFF0000
known_bits p c reg.Eecd wanted here = of_pins wanted here
known_bits p c reg.CtrlExt wanted here = if_zero wanted
known_bits p c reg.Fcal wanted here = if_zero wanted
known_bits p c reg.Fcah wanted here = if_zero wanted
known_bits p c reg.Fct wanted here = if_zero wanted
known_bits p c reg.Fcttv wanted here = if_zero wanted
known_bits p c reg.Tipg wanted here = if_zero wanted
known_bits p c reg.Rxdctl wanted here = if_zero wanted
known_bits p c reg.Tidv wanted here = if_zero wanted
known_bits p c reg.Rxcsum wanted here = if_zero wanted
known_bits p c reg.Rdtr wanted here = in_first p (if_narrow wanted)
known_bits p c reg.Radv wanted here = in_first p (if_narrow wanted)
known_bits p c reg.Tadv wanted here = in_first p (if_narrow wanted)
known_bits p c reg.Itr wanted here = in_first p (if_narrow wanted)
known_bits p c reg.Rdbal wanted here = 0x0000000F
known_bits p c reg.Tdbal wanted here = 0x0000000F
known_bits p c (reg.Rah i) wanted here = 0x7FFC0000
known_bits p c reg.Ics wanted here = 0x0001FFFF
known_bits p c reg.Ims wanted here = 0xFFFE0000
known_bits p c reg.Icr wanted here =
    bit_or (bit_or (bit_or 0xFFFE0000 (when c.sent 0x00000003)) (when c.arrived 0x00000050)) (when c.enabled 0x00000080)
known_bits p c reg.Rdh wanted here = when c.rdt 0x0000FFFF
known_bits p c reg.Tdh wanted here = when c.tdt 0x0000FFFF
known_bits p c reg.Gptc wanted here = of_sending c
known_bits p c reg.Gotcl wanted here = of_sending c
known_bits p c reg.Gotch wanted here = of_sending c
known_bits p c reg.Ptc64 wanted here = of_sending c
known_bits p c reg.Ptc127 wanted here = of_sending c
known_bits p c reg.Ptc255 wanted here = of_sending c
known_bits p c reg.Ptc511 wanted here = of_sending c
known_bits p c reg.Ptc1023 wanted here = of_sending c
known_bits p c reg.Ptc1522 wanted here = of_sending c
known_bits p c reg.Mptc wanted here = of_sending c
known_bits p c reg.Bptc wanted here = of_sending c
known_bits p c reg.Totl wanted here = of_sending c
known_bits p c reg.Toth wanted here = of_sending c
known_bits p c reg.Tpt wanted here = of_sending c
known_bits p c reg.Mpc wanted here = of_receiving c
known_bits p c reg.Prc64 wanted here = of_receiving c
known_bits p c reg.Prc127 wanted here = of_receiving c
known_bits p c reg.Prc255 wanted here = of_receiving c
known_bits p c reg.Prc511 wanted here = of_receiving c
known_bits p c reg.Prc1023 wanted here = of_receiving c
known_bits p c reg.Prc1522 wanted here = of_receiving c
known_bits p c reg.Gprc wanted here = of_receiving c
known_bits p c reg.Bprc wanted here = of_receiving c
known_bits p c reg.Mprc wanted here = of_receiving c
known_bits p c reg.Gorcl wanted here = of_receiving c
known_bits p c reg.Gorch wanted here = of_receiving c
known_bits p c reg.Rnbc wanted here = of_receiving c
known_bits p c reg.Ruc wanted here = of_receiving c
known_bits p c reg.Roc wanted here = of_receiving c
known_bits p c reg.Torl wanted here = of_receiving c
known_bits p c reg.Torh wanted here = of_receiving c
known_bits p c reg.Tpr wanted here = of_receiving c
known_bits p c _ wanted here = 0

-- it differs in no other bits than those
abbrev pub is_known : Profile → Causes → Reg → ℕ → ℕ → Bool
is_known p c r wanted here = bit_and (bit_xor wanted here) (0xFFFFFFFF - known_bits p c r wanted here) == 0
