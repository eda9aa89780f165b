-- How the driver starts the device (manual, chapter on general initialization): what `start` performs, part by part.
use Rattle.std.specs.Prelude.{◌≡◌, ℕ, zero, suc, ◌+◌, ◌-◌, ◌*◌, ◌/◌, ◌%◌, ◌==◌, if◌then◌else◌}
use Rattle.std.specs.Prelude.{List, [], ◌∷◌, ◌++◌, sum, slice_index, replicate, Option, Some, None}
use Rattle.byteorder.specs.Endian.{little_bytes}
use Rattle.em_regs.specs.declared.reg.Reg.TheVariants.{
  Ctrl,
  Eerd,
  Imc,
  Rctl,
  Tctl,
  Tipg,
  Rdbal,
  Rdbah,
  Rdlen,
  Rdh,
  Rdt,
  Tdbal,
  Tdbah,
  Tdlen,
  Tdh,
  Tdt,
  Mta,
  Ral,
  Rah,
}
use Rattle.em_step.specs.Access.{has}
use Rattle.em_driver.specs.World.{World}
use Rattle.em_driver.specs.Course.{Course, done, read, write, reset, poke, Follows, Comes}
use Rattle.em_driver.specs.Outcome.{cause_of}
use Rattle.em_driver.specs.declared.layout.Layout.{Layout}
use Rattle.em_driver.specs.declared.outcome.Cause.{Cause}
use Rattle.em_driver.specs.declared.outcome.Cause.TheVariants as cause

-- A start answers none where the driver is started, and else why it is not.
abbrev pub Start : Type 0
Start = Course (Option Cause)

-- a part of a start, before all that comes after it
abbrev pub Part : Type 0
Part = Start → Start

-- a part for each number from i on, n of them
unfoldable pub each_from : ℕ → ℕ → (ℕ → Part) → Part
each_from i zero part more = more
each_from i (suc n) part more = part i (each_from (i + 1) n part more)

-- ---- reset

-- CTRL with RST, which stops a start where memory is refused
abbrev pub device_reset : Part
device_reset more = reset (Some cause.Memory) more

-- All interrupts are masked, and the device is reset.
unfoldable pub until_reset : Part
until_reset more = write Imc 0xFFFF_FFFF (device_reset more)

-- They are masked again, since the mask was reset too. Then the link is set up (SLU), in full duplex (FD).
unfoldable pub set_link_up : Part
set_link_up more = write Imc 0xFFFF_FFFF (write Ctrl 0x0000_0041 more)

unfoldable pub global_reset : Part
global_reset more = until_reset (set_link_up more)

-- ---- the EEPROM

-- A word is asked for with START (bit 0) and its address in bits 15 to 8. What EERD then says has DONE (bit 4), and the
-- word in bits 31 to 16.
unfoldable pub eeprom_word : ℕ → (ℕ → Start) → Start
eeprom_word address next =
    write Eerd (0x100 * address + 0x1)
    (read Eerd (λ value. if has value 0x10 then next (value / 0x1_0000) else done (Some cause.Broken)))

-- n words from an address on, behind those that were read before
unfoldable pub words_from : ℕ → ℕ → List ℕ → (List ℕ → Start) → Start
words_from address zero words next = next words
words_from address (suc n) words next =
    eeprom_word address (λ word. words_from (address + 1) n (words ++ word ∷ []) next)

-- the words sum to BABA, modulo 65,536
abbrev pub summed : (List ℕ → Start) → List ℕ → Start
summed next words = if sum words % 0x1_0000 == 0xBABA then next words else done (Some cause.Checksum)

-- all 64 words, whose sum must be right
unfoldable pub eeprom : (List ℕ → Start) → Start
eeprom next = words_from 0 64 [] (summed next)

-- ---- addresses to receive by

-- The first receive address is that of words 0 to 2, the low half of each first, and is valid (AV, bit 31).
unfoldable pub receive_address : List ℕ → Part
receive_address words more =
    write (Ral 0) (slice_index words 0 + 0x1_0000 * slice_index words 1)
    (write (Rah 0) (slice_index words 2 + 0x8000_0000) more)

-- no group address is received by its hash
unfoldable pub multicast_table : Part
multicast_table more = each_from 0 128 (λ i. write (Mta i) 0) more

-- ---- rings

-- a descriptor of a buffer: its address in octets 0 to 7, then zero
abbrev pub fresh_descriptor : ℕ → List ℕ
fresh_descriptor buffer = little_bytes 8 buffer ++ replicate 8 0

-- octets in memory, which stop a start where they are refused
abbrev pub memory : ℕ → List ℕ → Part
memory addr octets more = poke addr octets (λ refusal. Some (cause_of refusal)) more

-- a ring of so many descriptors of 16 octets, each with its own of as many buffers of 2,048 octets
unfoldable pub descriptors : ℕ → ℕ → ℕ → Part
descriptors ring count buffers more =
    each_from 0 count (λ i. memory (ring + 16 * i) (fresh_descriptor (buffers + 2048 * i))) more

-- The receive ring is the adapter's but for one descriptor. Then receiving is enabled (EN), for every address (UPE,
-- MPE, BAM), in buffers of 2,048 octets.
unfoldable pub receive_ring : Layout → Part
receive_ring l more =
    descriptors l.rx_ring l.rx_count l.rx_buffers
    (write Rdbal (l.rx_ring % 0x1_0000_0000)
    (write Rdbah (l.rx_ring / 0x1_0000_0000)
    (write Rdlen (16 * l.rx_count)
    (write Rdh 0
    (write Rdt (l.rx_count - 1)
    (write Rctl 0x0000_801A more))))))

-- The transmit ring is empty. Then the gaps between packets are set (10, 8 and 6), and transmitting is enabled (EN),
-- short packets padded (PSP), with the manual's collision threshold (16) and collision distance (64).
unfoldable pub transmit_ring : Layout → Part
transmit_ring l more =
    descriptors l.tx_ring l.tx_count l.tx_buffers
    (write Tdbal (l.tx_ring % 0x1_0000_0000)
    (write Tdbah (l.tx_ring / 0x1_0000_0000)
    (write Tdlen (16 * l.tx_count)
    (write Tdh 0
    (write Tdt 0
    (write Tipg 0x0060_200A
    (write Tctl 0x0004_010A more)))))))

-- ---- the whole

-- a start, from its reset on
unfoldable pub after_reset : Layout → Start
after_reset l =
    set_link_up
    (eeprom (λ words.
    receive_address words
    (multicast_table
    (receive_ring l
    (transmit_ring l
    (done None))))))

-- a start with a good layout
unfoldable pub start : Layout → Start
start l = until_reset (after_reset l)

-- how many events a whole start has
abbrev pub start_events : Layout → ℕ
start_events l = 275 + l.rx_count + l.tx_count

-- ---- how far a start has come

-- a part was performed, with so many events
abbrev pub Performs : World → Part → ℕ → World → Type 0
Performs w part events v = (more : Start) → Comes w (part more) events v more

-- a part that gives a value to what comes after it
abbrev pub Gives : {A : Type 0} → World → ((A → Start) → Start) → ℕ → A → World → Type 0
Gives {A} w part events value v = (next : A → Start) → Comes w (part next) events v (next value)

-- a part stopped, whatever would come after it; its events are counted
pub record Stops {A : Type 0} (w : World) (part : A → Start) (before : ℕ) (why : Cause) (v : World)
    (after : ℕ) : Type 0 where
  pub events : ℕ
  pub counted : after ≡ before + events
  pub follows : (more : A) → Follows w (part more) events (Some why) v
