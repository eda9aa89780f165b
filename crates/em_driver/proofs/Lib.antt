-- The laws of the driver, in four folders. The folders course and rings stand on no other, order stands on rings, and
-- bring_up on all three. The other folders here are the proofs of the modules of src of the same names: so the laws of
-- turns are in rings, and those of a start in bring_up, as src has modules turns and start.
--
-- Begin with course.CourseSteps and order.DrivenWorld: nearly all that is said of a call goes through one of them.
--
-- course: what one call does, access by access, and how the turns of a plan are taken before each access.
--   1  CourseSteps: one access; MappedAnswers, TellsOfMemory, PlayedCourse, RunOfCalls: a course as a whole
--   1  WriteAnswers, BitFields, Sides: what a write answers, fields of a number, places of a side
--   1  TakenTurns, FirstList, Arrivals: the lists of a plan
--   2  RxBatchCourse, TxBatchCourse, StartCourse on CourseSteps
--   2  QuietMachine on WriteAnswers; HappenedCalls on PlayedCourse
-- rings: what a state as the driver keeps it says of the two rings, and how one turn of another actor changes it.
--   1  RingPlaces, WrittenDescriptors, MemoryUnits, SideRegisters: places, descriptors, memory, registers
--   2  ReceiveRing: what waits; 3 TransmitRing: what is queued and on the wire
--   4  OneTurn: both rings at once
-- order: each call hands over and takes packets in their order, whatever others do meanwhile.
--   1  Stages: what holds between events; StepsBack: steps back over whole calls
--   2  DrivenWorld: turns and accesses in a world as a driver keeps it
--   3  GivenBack: a descriptor goes back; HandedOver: a packet goes in; EventsOfOthers; OtherCalls: no packets
--   4  RxBatchOrder on GivenBack; TxBatchOrder on HandedOver; Spans on EventsOfOthers: calls and events in turn, for
--      the law `packets_in_order`
-- bring_up: a start leads from any device to a state as the driver keeps it.
--   1  DeviceOff, MemorySize, HeldRegisters: what a reset leaves, and what was written stays
--   2  RxRingMade: the device is off; 3 TxRingMade: it receives and does not send yet
--   4  StartOrder: the whole start
pub mod course
pub mod rings
pub mod order
pub mod bring_up
