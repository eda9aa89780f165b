-- What the refusals are called, and what each says.
use Rattle.std.specs.Prelude.{ℕ, ◌==◌, if◌then◌else◌, List, Option, Some, None, Result, Ok, Err, codes}
use Rattle.em_c.specs.declared.refused.Refused.{Refused}
use Rattle.em_c.specs.declared.refused.Refused.TheVariants.{NoRegister, Range, Length, DmaRange, Extended, TooLong}
use Rattle.em_c.specs.declared.refused.Refused.TheVariants.{Memory, Budget, NoMachine, HasMachine, Size, NoFrame, Room}
use Rattle.em_c.specs.declared.refused.Refused.TheVariants.{NoEvent, NoChange, NoWatch, NoName, NoRefusal, NoRing, NoDescriptor}
use Rattle.em_c.specs.declared.refused.Refused.TheVariants.{Busy, Unread, Unwritten, NoRam, Begun, Recorded, File, Unrecorded}
use Rattle.em_c.specs.declared.refused.Refused.TheVariants.{Width}
use Rattle.em_c.specs.declared.refused.Refused.TheVariants.{NoCapture, HasCapture, CaptureEnd, CaptureMagic, CaptureVersion}
use Rattle.em_c.specs.declared.refused.Refused.TheVariants.{CaptureCut, CaptureBlock, CaptureLink, CaptureLength, CaptureInterface}
use Rattle.em_c.specs.declared.refused.Refused.TheVariants.{NoProfile}
use Rattle.em_c.specs.declared.refused.Refused.TheVariants.{StoredMagic, StoredVersion, StoredLength, StoredSum, StoredValue}

-- its name, and a sentence
abbrev pub text_of : Refused → List ℕ
text_of NoRegister = codes "NoRegister: no register lies at the offset"
text_of Range = codes "Range: the octets leave guest memory"
text_of Length = codes "Length: too few octets, or too many"
text_of DmaRange = codes "DmaRange: a descriptor or its buffer leaves guest memory"
text_of Extended = codes "Extended: a transmit descriptor has DEXT"
text_of TooLong = codes "TooLong: a frame's buffers hold more than 16,380 octets together"
text_of Memory = codes "Memory: the host gave no memory"
text_of Budget = codes "Budget: the budget lies outside 65,536 to 16,777,216"
text_of NoMachine = codes "NotMade: the handle holds no machine"
text_of HasMachine = codes "MadeAlready: the handle holds a machine already"
text_of Size = codes "Size: guest memory can not have that size, or not lie there"
text_of NoFrame = codes "NoFrame: so many frames were not sent"
text_of Room = codes "Room: there is no room for what is told"
text_of NoEvent = codes "NoEvent: the journal does not hold so many events"
text_of NoChange = codes "NoChange: no event of the journal changed what is watched"
text_of NoWatch = codes "NoWatch: there is no such kind of watch"
text_of NoName = codes "NoName: no register has the name"
text_of NoRefusal = codes "NoRefusal: no refusal has the number"
text_of NoRing = codes "NoRing: the rings are 1, which receives, and 2, which transmits"
text_of NoDescriptor = codes "NoDescriptor: the ring has no descriptor of the index"
text_of Busy = codes "Busy: a function of the caller's memory made the call"
text_of Unread = codes "Unread: the caller's memory was not read"
text_of Unwritten = codes "Unwritten: the caller's memory was not written"
text_of NoRam = codes "NoRam: the caller's memory has two functions, or a table of regions"
text_of Begun = codes "Begun: a run is kept from its first event on"
text_of Recorded = codes "Recorded: the run is kept already"
text_of File = codes "File: the file was not opened, or not written"
text_of Unrecorded = codes "Unrecorded: the run is not kept"
text_of Width = codes "Width: registers are accessed by four octets"
text_of NoCapture = codes "NotOpen: the handle holds no capture"
text_of HasCapture = codes "OpenAlready: the handle holds a capture already"
text_of CaptureEnd = codes "CaptureEnd: no frame of the capture is left"
text_of CaptureMagic = codes "CaptureMagic: the capture's magic number is not known"
text_of CaptureVersion = codes "CaptureVersion: the capture's version is not known"
text_of CaptureCut = codes "CaptureCut: the capture is cut short"
text_of CaptureBlock = codes "CaptureBlock: a block of the capture has a wrong length"
text_of CaptureLink = codes "CaptureLink: the capture's link type is not Ethernet"
text_of CaptureLength = codes "CaptureLength: a captured length is too large"
text_of CaptureInterface = codes "CaptureInterface: a packet's interface is not described"
text_of NoProfile = codes "NoProfile: the profiles are 0, the table, and 1, the adapter"
text_of StoredMagic = codes "StoredMagic: the octets do not begin with BUNJELAV"
text_of StoredVersion = codes "StoredVersion: the octets' version is not known"
text_of StoredLength = codes "StoredLength: the octets are not as many as they say"
text_of StoredSum = codes "StoredSum: the octets have another check sum"
text_of StoredValue = codes "StoredValue: no machine is stored so"

abbrev pub with_number : ℕ → Option Refused
with_number code =
    if code == 1 then Some NoRegister
    else if code == 2 then Some Range
    else if code == 3 then Some Length
    else if code == 4 then Some DmaRange
    else if code == 5 then Some Extended
    else if code == 6 then Some TooLong
    else if code == 9 then Some Memory
    else if code == 24 then Some Budget
    else if code == 26 then Some NoMachine
    else if code == 27 then Some HasMachine
    else if code == 28 then Some Size
    else if code == 29 then Some NoFrame
    else if code == 30 then Some Room
    else if code == 31 then Some NoEvent
    else if code == 32 then Some NoChange
    else if code == 33 then Some NoWatch
    else if code == 34 then Some NoName
    else if code == 35 then Some NoRefusal
    else if code == 36 then Some NoRing
    else if code == 37 then Some NoDescriptor
    else if code == 38 then Some Busy
    else if code == 39 then Some Unread
    else if code == 40 then Some Unwritten
    else if code == 41 then Some NoRam
    else if code == 42 then Some Begun
    else if code == 43 then Some Recorded
    else if code == 44 then Some File
    else if code == 45 then Some Unrecorded
    else if code == 46 then Some Width
    else if code == 47 then Some NoCapture
    else if code == 48 then Some HasCapture
    else if code == 49 then Some CaptureEnd
    else if code == 50 then Some CaptureMagic
    else if code == 51 then Some CaptureVersion
    else if code == 52 then Some CaptureCut
    else if code == 53 then Some CaptureBlock
    else if code == 54 then Some CaptureLink
    else if code == 55 then Some CaptureLength
    else if code == 56 then Some CaptureInterface
    else if code == 57 then Some NoProfile
    else if code == 58 then Some StoredMagic
    else if code == 59 then Some StoredVersion
    else if code == 60 then Some StoredLength
    else if code == 61 then Some StoredSum
    else if code == 62 then Some StoredValue
    else None

abbrev pub text_or_none : Option Refused → Result (List ℕ) Refused
text_or_none None = Err NoRefusal
text_or_none (Some refused) = Ok (text_of refused)

-- of the refusal with a number
abbrev pub text_at : ℕ → Result (List ℕ) Refused
text_at code = text_or_none (with_number code)
