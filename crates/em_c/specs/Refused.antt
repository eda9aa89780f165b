-- Why a call did nothing, and its number.
use Rattle.std.specs.Prelude.{◌≡◌, ℕ, Result, Ok, Err}
use Rattle.em_step.specs.declared.refusal.Refusal.{Refusal}
use Rattle.em_step.specs.declared.refusal.Refusal.TheVariants as event
use Rattle.em_c.specs.declared.refused.Refused.{Refused}
use Rattle.em_c.specs.declared.refused.Refused.TheVariants.{NoRegister, Range, Length, DmaRange, Extended, TooLong}
use Rattle.em_c.specs.declared.refused.Refused.TheVariants.{Memory, Budget, NoMachine, HasMachine, Size, NoFrame, Room}
use Rattle.em_c.specs.declared.refused.Refused.TheVariants.{NoEvent, NoChange, NoWatch, NoName, NoRefusal, NoRing, NoDescriptor}
use Rattle.em_c.specs.declared.refused.Refused.TheVariants.{Busy, Unread, Unwritten, NoRam, Begun, Recorded, File, Unrecorded, Width}
use Rattle.em_c.specs.declared.refused.Refused.TheVariants.{NoCapture, HasCapture, CaptureEnd, CaptureMagic, CaptureVersion}
use Rattle.em_c.specs.declared.refused.Refused.TheVariants.{CaptureCut, CaptureBlock, CaptureLink, CaptureLength, CaptureInterface}
use Rattle.em_c.specs.declared.refused.Refused.TheVariants.{NoProfile}
use Rattle.em_c.specs.declared.refused.Refused.TheVariants.{StoredMagic, StoredVersion, StoredLength, StoredSum, StoredValue}

-- what refuses an event has the model's number; the others have numbers that no other refusal of the model has
abbrev pub number_of : Refused → ℕ
number_of NoRegister = 1
number_of Range = 2
number_of Length = 3
number_of DmaRange = 4
number_of Extended = 5
number_of TooLong = 6
number_of Memory = 9
number_of Budget = 24
number_of NoMachine = 26
number_of HasMachine = 27
number_of Size = 28
number_of NoFrame = 29
number_of Room = 30
number_of NoEvent = 31
number_of NoChange = 32
number_of NoWatch = 33
number_of NoName = 34
number_of NoRefusal = 35
number_of NoRing = 36
number_of NoDescriptor = 37
number_of Busy = 38
number_of Unread = 39
number_of Unwritten = 40
number_of NoRam = 41
number_of Begun = 42
number_of Recorded = 43
number_of File = 44
number_of Unrecorded = 45
number_of Width = 46
number_of NoCapture = 47
number_of HasCapture = 48
number_of CaptureEnd = 49
number_of CaptureMagic = 50
number_of CaptureVersion = 51
number_of CaptureCut = 52
number_of CaptureBlock = 53
number_of CaptureLink = 54
number_of CaptureLength = 55
number_of CaptureInterface = 56
number_of NoProfile = 57
number_of StoredMagic = 58
number_of StoredVersion = 59
number_of StoredLength = 60
number_of StoredSum = 61
number_of StoredValue = 62

abbrev pub of_event : Refusal → Refused
of_event event.NoRegister = NoRegister
of_event event.Range = Range
of_event event.Length = Length
of_event event.DmaRange = DmaRange
of_event event.Extended = Extended
of_event event.TooLong = TooLong
of_event event.Memory = Memory

-- the number that a call gives: 0, or that of the reason
abbrev pub number : {X : Type 0} → Result X Refused → ℕ
number (Ok x) = 0
number (Err refused) = number_of refused

-- what is told, where nothing refused it; else what was there
abbrev pub told : {X : Type 0} → X → Result X Refused → X
told old (Ok x) = x
told old (Err refused) = old

-- the number, and what is told
abbrev pub Shows : {X : Type 0} → Result X Refused → X → ℕ → X → Type 0
Shows outcome old code new = (code ≡ number outcome) × (new ≡ told old outcome)
