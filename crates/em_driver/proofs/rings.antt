pub mod RingPlaces
pub mod WrittenDescriptors
pub mod MemoryUnits
pub mod SideRegisters
pub mod ReceiveRing
pub mod TransmitRing
pub mod OneTurn
