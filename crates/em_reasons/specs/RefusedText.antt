-- Why an event was refused, in words.
use Rattle.std.specs.Prelude.{ℕ, ◌==◌, if◌then◌else◌, List, [], ◌++◌, codes, decimal, Option, Some, None}
use Rattle.em_inspect.specs.AddressText.{address_text}
use Rattle.em_reasons.specs.declared.refused.Bounds.{Bounds}
use Rattle.em_reasons.specs.declared.refused.Refused.{Refused}
use Rattle.em_reasons.specs.declared.refused.Refused.TheVariants.{NoRegister, Range, WriteLength, FrameLength}
use Rattle.em_reasons.specs.declared.refused.Refused.TheVariants.{RxDescriptor, RxBuffer, TxDescriptor, TxBuffer}
use Rattle.em_reasons.specs.declared.refused.Refused.TheVariants.{Extended, TooLong, Overlong, Memory}
use Rattle.em_reasons.specs.Refused.{memory_of}

-- where guest memory ends, and where it begins, if not at 0
abbrev pub bounds_text : Bounds → List ℕ
bounds_text memory =
    if memory.base == 0 then codes ", memory ends at " ++ address_text memory.end
    else codes ", memory begins at "
    ++ (address_text memory.base ++ (codes " and ends at " ++ address_text memory.end))

-- behind a reason that something leaves it
abbrev pub memory_text : Option Bounds → List ℕ
memory_text None = []
memory_text (Some memory) = bounds_text memory

-- the descriptor of an index, where it lies, and a text behind it
abbrev pub descriptor_then : ℕ → ℕ → List ℕ → List ℕ
descriptor_then index at text =
    codes "descriptor " ++ (decimal index ++ (codes " at " ++ (address_text at ++ text)))

-- its buffer, which has so many octets for a frame of so many
abbrev pub rx_buffer_text : ℕ → ℕ → ℕ → ℕ → ℕ → List ℕ
rx_buffer_text index at buffer size frame =
    descriptor_then index at
    (codes ", buffer "
    ++ (address_text buffer
    ++ (codes " of " ++ (decimal size ++ (codes " octets for a frame of " ++ decimal frame)))))

-- its buffer, which has so many octets
abbrev pub tx_buffer_text : ℕ → ℕ → ℕ → ℕ → List ℕ
tx_buffer_text index at buffer octets =
    descriptor_then index at
    (codes ", buffer " ++ (address_text buffer ++ (codes " of " ++ (decimal octets ++ codes " octets"))))

-- it has too many octets, and a text behind
abbrev pub long_text : ℕ → ℕ → ℕ → List ℕ → List ℕ
long_text index at octets text =
    descriptor_then index at (codes ": its " ++ (decimal octets ++ (codes " octets " ++ text)))

abbrev pub range_text : ℕ → ℕ → List ℕ
range_text at octets = decimal octets ++ (codes " octets at " ++ address_text at)

-- a reason, up to where guest memory lies
abbrev pub reason_text : Refused → List ℕ
reason_text (NoRegister offset) = codes "no register lies at " ++ address_text offset
reason_text (Range at octets memory) = range_text at octets
reason_text (WriteLength octets) = decimal octets ++ codes " octets are not 1 to 16384"
reason_text (FrameLength octets) = decimal octets ++ codes " octets are not 14 to 20000"
reason_text (RxDescriptor index at memory) = descriptor_then index at []
reason_text (RxBuffer index at buffer size frame memory) = rx_buffer_text index at buffer size frame
reason_text (TxDescriptor index at memory) = descriptor_then index at []
reason_text (Extended index at) = descriptor_then index at (codes " is extended (DEXT)")
reason_text (TooLong index at octets) = long_text index at octets (codes "with those gathered before are above 16380")
reason_text (Overlong index at octets) =
    long_text index at octets (codes "are above 16288, or with those gathered before above 16380")
reason_text (TxBuffer index at buffer octets memory) = tx_buffer_text index at buffer octets
reason_text Memory = codes "the host has no memory for it"

abbrev pub refused_text : Refused → List ℕ
refused_text reason = reason_text reason ++ memory_text (memory_of reason)
