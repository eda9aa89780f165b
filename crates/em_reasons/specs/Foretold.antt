-- What is wrong with the descriptor at a ring's head, and what the engine then does.
use Rattle.std.specs.Prelude.{◌≡◌, ◌+◌, ◌≤◌, ℕ, nat_lt, true, false, List, length, Option, Some, None, Result, Ok, Err}
use Rattle.em_regs.specs.Setup.{rx_setup, tx_setup}
use Rattle.em_rx.specs.Fifo.{rest}
use Rattle.em_step.specs.State.{State}
use Rattle.em_step.specs.declared.event.Answer.{Answer}
use Rattle.em_step.specs.declared.refusal.Refusal.{Refusal}
use Rattle.em_step.specs.declared.refusal.Refusal.TheVariants as refusal
use Rattle.em_tx.specs.Control.{is_over}
use Rattle.em_tx.specs.Descriptor.{length_of}
use Rattle.em_inspect.specs.declared.trouble.Trouble.{Trouble}
use Rattle.em_inspect.specs.declared.trouble.Trouble.TheVariants as trouble
use Rattle.em_inspect.specs.Ring.{rx_ring, tx_ring}
use Rattle.em_inspect.specs.Trouble.{trouble_of}
use Rattle.em_reasons.specs.Refused.{tx_octets}

-- the refusal of a step that is refused
abbrev pub refusal_in : Result (Answer × State) Refusal → Option Refusal
refusal_in (Ok r) = None
refusal_in (Err refused) = Some refused

-- what is wrong with the descriptor at RDH, and at TDH
abbrev pub rx_trouble : State → Option Trouble
rx_trouble s = trouble_of (rx_ring s.profile (rx_setup s.registers)) s.base s.memory (rx_setup s.registers).head

abbrev pub tx_trouble : State → Option Trouble
tx_trouble s = trouble_of (tx_ring s.profile (tx_setup s.registers)) s.base s.memory (tx_setup s.registers).head

-- the refusal that it foretells: a length of 0, and a buffer over the ring or another buffer, refuse nothing
abbrev pub foretold : Option Trouble → Option Refusal
foretold (Some trouble.Outside) = Some refusal.DmaRange
foretold (Some trouble.Extended) = Some refusal.Extended
foretold (Some trouble.TooLong) = Some refusal.TooLong
foretold (Some trouble.BufferOutside) = Some refusal.DmaRange
foretold _ = None

-- what the first frame still has fills the buffer at RDH, of which the trouble speaks; the engine goes by the octets
abbrev pub FillsBuffer : State → Type 0
FillsBuffer s = (rx_setup s.registers).buffer ≤ rest s.fifo

-- the descriptor at TDH, as the profile reads it
abbrev pub read : State → List ℕ
read s = tx_octets s.profile (tx_setup s.registers) s.memory

-- what earlier buffers of the frame have does not make it too long; the trouble counts it alone
abbrev pub IsLongAlone : State → Type 0
IsLongAlone s =
    nat_lt 16380 (length s.gathered + length_of (read s)) ≡ true → nat_lt 16380 (length_of (read s)) ≡ true

-- the profile lets one descriptor have as many octets: so does the first profile always
abbrev pub HasFew : State → Type 0
HasFew s = is_over s.profile (length_of (read s)) ≡ false
