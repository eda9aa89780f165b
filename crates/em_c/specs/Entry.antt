-- A descriptor of a ring, read.
use Rattle.std.specs.Prelude.{◌≡◌, ℕ, nat_lt, if◌then◌else◌, Option, Some, None, Result, Ok, Err}
use Rattle.em_step.specs.State.{State}
use Rattle.em_journal.specs.View.{View}
use Rattle.em_inspect.specs.DescriptorText.{descriptor_text}
use Rattle.em_inspect.specs.Trouble.{descriptor_in}
use Rattle.em_inspect.specs.declared.descriptor.Bits.{Bits}
use Rattle.em_inspect.specs.declared.descriptor.Bits.TheVariants.{Rx, Tx}
use Rattle.em_inspect.specs.declared.descriptor.Descriptor.{Descriptor}
use Rattle.em_inspect.specs.declared.descriptor.Fields.{Fields}
use Rattle.em_inspect.specs.declared.ring.Owner.{Owner}
use Rattle.em_inspect.specs.declared.ring.Owner.TheVariants.{Adapter, Driver}
use Rattle.em_inspect.specs.declared.ring.SidedRing.{SidedRing}
use Rattle.em_inspect.specs.declared.trouble.Trouble.{Trouble}
use Rattle.em_inspect.specs.declared.trouble.Trouble.TheVariants.{Outside, Extended, NoLength, TooLong, BufferOutside}
use Rattle.em_inspect.specs.declared.trouble.Trouble.TheVariants.{OverRing, OverBuffer}
use Rattle.em_c.specs.declared.entry.EmEntry.{EmEntry}
use Rattle.em_c.specs.declared.refused.Refused.{Refused}
use Rattle.em_c.specs.declared.refused.Refused.TheVariants.{NoDescriptor, NoMachine}
use Rattle.em_c.specs.declared.tagged.Tagged.{Tagged}
use Rattle.em_c.specs.Told.{address_told, flag}
use Rattle.em_c.specs.Line.{IsTold, line_of, no_line, without_end}
use Rattle.em_c.specs.Rings.{sided}

abbrev pub adapters_of : Owner → ℕ
adapters_of Adapter = 1
adapters_of Driver = 0

-- what is wrong with it, as a number
abbrev pub number_of_trouble : Option Trouble → ℕ
number_of_trouble None = 0
number_of_trouble (Some Outside) = 1
number_of_trouble (Some Extended) = 2
number_of_trouble (Some NoLength) = 3
number_of_trouble (Some TooLong) = 4
number_of_trouble (Some BufferOutside) = 5
number_of_trouble (Some OverRing) = 6
number_of_trouble (Some (OverBuffer other)) = 7

-- the descriptor over whose buffer its own lies
abbrev pub other_of : Option Trouble → ℕ
other_of (Some (OverBuffer other)) = other
other_of _ = 0

abbrev pub blank : EmEntry
blank = record {
  address = 0;
  buffer = 0;
  index = 0;
  length = 0;
  status = 0;
  errors = 0;
  command = 0;
  adapters = 0;
  head = 0;
  tail = 0;
  trouble = 0;
  other = 0;
  text = no_line;
}

-- its bits
abbrev pub with_bits : EmEntry → Bits → EmEntry
with_bits e (Rx status errors) = record e { status = status; errors = errors }
with_bits e (Tx command status) = record e { status = status; command = command }

-- what it says, where it lies in guest memory
abbrev pub fields_told : Option Fields → EmEntry
fields_told None = blank
fields_told (Some f) = with_bits (record blank { buffer = f.buffer; length = f.length }) f.bits

abbrev pub entry_told : Descriptor → EmEntry
entry_told d = record (fields_told d.fields) {
  address = address_told d.address;
  index = d.index;
  adapters = adapters_of d.owner;
  head = flag d.is_head;
  tail = flag d.is_tail;
  trouble = number_of_trouble d.trouble;
  other = other_of d.trouble;
  text = line_of (without_end (descriptor_text d));
}

-- ---- what is told

abbrev pub descriptor_of : ℕ → State → Result SidedRing Refused → Result Descriptor Refused
descriptor_of index s (Ok r) =
    if nat_lt index r.setup.count then Ok (descriptor_in r s.base s.memory index) else Err NoDescriptor
descriptor_of index s (Err refused) = Err refused

-- or its line has no room
abbrev pub TellsEntry : Result Descriptor Refused → Result EmEntry Refused → Type 0
TellsEntry (Ok d) outcome = IsTold outcome (entry_told d)
TellsEntry (Err refused) outcome = outcome ≡ Err refused

-- of a machine
abbrev pub EntryIn : ℕ → ℕ → View → Result EmEntry Refused → Type 0
EntryIn side index v outcome = TellsEntry (descriptor_of index v.present (sided side v)) outcome

-- of the machine that is held
abbrev pub HeldEntry : Option Tagged → ℕ → ℕ → Result EmEntry Refused → Type 0
HeldEntry None side index outcome = outcome ≡ Err NoMachine
HeldEntry (Some t) side index outcome = EntryIn side index t.traced.view outcome
