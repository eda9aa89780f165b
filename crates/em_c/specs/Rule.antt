-- The numbers of the rules by which an event does nothing.
use Rattle.std.specs.Prelude.{ℕ}
use Rattle.em_c.specs.declared.rule.Rule.{Rule}
use Rattle.em_c.specs.declared.rule.Rule.TheVariants.{NoRule, RxDisabled, RxNoRing, RxHeadPast, RxTailPast, RxEmpty}
use Rattle.em_c.specs.declared.rule.Rule.TheVariants.{RxNoFrame, TxDisabled, TxNoRing, TxHeadPast, TxTailPast}
use Rattle.em_c.specs.declared.rule.Rule.TheVariants.{TxEmpty, FrameDown, FrameDisabled, FrameUnicast}
use Rattle.em_c.specs.declared.rule.Rule.TheVariants.{FrameMulticast, FrameBroadcast, FrameUndersize, FrameOversize}
use Rattle.em_c.specs.declared.rule.Rule.TheVariants.{FrameVlan, FrameMissed, NoRegister, WriteRange, WriteLength}
use Rattle.em_c.specs.declared.rule.Rule.TheVariants.{FrameLength, RxDescriptor, RxBuffer, TxDescriptor, TxExtended}
use Rattle.em_c.specs.declared.rule.Rule.TheVariants.{TxTooLong, TxBuffer, Memory, FrameControl, FrameCfi, FramePause}
use Rattle.em_c.specs.declared.rule.Rule.TheVariants.{TxLinkDown}

abbrev pub number_of : Rule → ℕ
number_of NoRule = 0
number_of RxDisabled = 1
number_of RxNoRing = 2
number_of RxHeadPast = 3
number_of RxTailPast = 4
number_of RxEmpty = 5
number_of RxNoFrame = 6
number_of TxDisabled = 7
number_of TxNoRing = 8
number_of TxHeadPast = 9
number_of TxTailPast = 10
number_of TxEmpty = 11
number_of FrameDown = 12
number_of FrameDisabled = 13
number_of FrameUnicast = 14
number_of FrameMulticast = 15
number_of FrameBroadcast = 16
number_of FrameUndersize = 17
number_of FrameOversize = 18
number_of FrameVlan = 19
number_of FrameMissed = 20
number_of NoRegister = 21
number_of WriteRange = 22
number_of WriteLength = 23
number_of FrameLength = 24
number_of RxDescriptor = 25
number_of RxBuffer = 26
number_of TxDescriptor = 27
number_of TxExtended = 28
number_of TxTooLong = 29
number_of TxBuffer = 30
number_of Memory = 31
number_of FrameControl = 32
number_of FrameCfi = 33
number_of FramePause = 34
number_of TxLinkDown = 35
