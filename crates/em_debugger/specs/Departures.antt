-- What the model knowingly does otherwise than a real adapter or QEMU's, by the register that shows it.
use Rattle.std.specs.Prelude.{ℕ, ◌==◌, if◌then◌else◌, List, [], ◌++◌, codes, length}
use Rattle.em_regs.specs.declared.reg.Reg.{Reg}
use Rattle.em_regs.specs.declared.reg.Reg.TheVariants as reg

-- after a reset the register has another value there
abbrev pub after_reset : List ℕ
after_reset = codes "after a reset it is 0 here"

-- QEMU keeps nothing of what is written there
abbrev pub kept : List ℕ
kept = codes "here it holds what was written; QEMU reads it as 0"

-- a real adapter has 16 bits there
abbrev pub wide : List ℕ
wide = codes "here all 32 bits are stored; a real adapter has 16"

-- QEMU stores bits that the manual does not
abbrev pub low_bits : List ℕ
low_bits = codes "the low 4 bits are 0 here, as in the manual; QEMU stores them"

-- what an engine's steps move
abbrev pub by_steps : List ℕ
by_steps = codes "here engines make steps by rx and tx alone"

-- what arriving frames move
abbrev pub by_arrivals : List ℕ
by_arrivals = codes "here frames arrive by arrive alone"

-- of a counter
abbrev pub counter_departure : Reg → List ℕ
counter_departure reg.Gptc = by_steps
counter_departure reg.Gotcl = by_steps
counter_departure reg.Gotch = by_steps
counter_departure reg.Ptc64 = by_steps
counter_departure reg.Ptc127 = by_steps
counter_departure reg.Ptc255 = by_steps
counter_departure reg.Ptc511 = by_steps
counter_departure reg.Ptc1023 = by_steps
counter_departure reg.Ptc1522 = by_steps
counter_departure reg.Mptc = by_steps
counter_departure reg.Bptc = by_steps
counter_departure reg.Totl = by_steps
counter_departure reg.Toth = by_steps
counter_departure reg.Tpt = by_steps
counter_departure reg.Mpc = by_arrivals
counter_departure reg.Prc64 = by_arrivals
counter_departure reg.Prc127 = by_arrivals
counter_departure reg.Prc255 = by_arrivals
counter_departure reg.Prc511 = by_arrivals
counter_departure reg.Prc1023 = by_arrivals
counter_departure reg.Prc1522 = by_arrivals
counter_departure reg.Gprc = by_arrivals
counter_departure reg.Bprc = by_arrivals
counter_departure reg.Mprc = by_arrivals
counter_departure reg.Gorcl = by_arrivals
counter_departure reg.Gorch = by_arrivals
counter_departure reg.Rnbc = by_arrivals
counter_departure reg.Ruc = by_arrivals
counter_departure reg.Roc = by_arrivals
counter_departure reg.Torl = by_arrivals
counter_departure reg.Torh = by_arrivals
counter_departure reg.Tpr = by_arrivals
counter_departure _ = []

abbrev pub departure_of : Reg → List ℕ
departure_of reg.Ctrl = after_reset
departure_of reg.Ledctl = after_reset
departure_of reg.Pba = after_reset
departure_of reg.Vet = after_reset
departure_of reg.Status = codes "FD, LU and SPEED alone are told here, and link lines alone set LU"
departure_of reg.Eerd = codes "here the EEPROM holds the address and the sum alone, and answers at once"
departure_of reg.Eecd = codes "QEMU grants without a request, and has other words in its EEPROM"
departure_of reg.Mdic = codes "here a link is negotiated at once; QEMU takes half a second"
departure_of reg.CtrlExt = kept
departure_of reg.Fcal = kept
departure_of reg.Fcah = kept
departure_of reg.Fct = kept
departure_of reg.Fcttv = kept
departure_of reg.Tipg = kept
departure_of reg.Rxdctl = kept
departure_of reg.Tidv = kept
departure_of reg.Rxcsum = kept
departure_of reg.Rdtr = wide
departure_of reg.Radv = wide
departure_of reg.Tadv = wide
departure_of reg.Itr = wide
departure_of reg.Rdbal = low_bits
departure_of reg.Tdbal = low_bits
departure_of (reg.Rah i) = codes "bits 30 to 18 are 0 here, as in the manual; QEMU stores them"
departure_of reg.Ics = codes "it reads as 0 here"
departure_of reg.Icr = codes "here engines make steps by rx and tx alone, and no PHY raises a cause"
departure_of reg.Ims = codes "bits 31 to 17 are 0 here, as in the manual; QEMU stores them"
departure_of reg.Rdh = by_steps
departure_of reg.Tdh = by_steps
departure_of reg = counter_departure reg

abbrev pub known_text : List ℕ → List ℕ
known_text known = if length known == 0 then [] else codes "known: " ++ (known ++ codes "\n")

-- what is known of it, if anything is
abbrev pub departure_text : Reg → List ℕ
departure_text r = known_text (departure_of r)
