pub mod DeviceOff
pub mod MemorySize
pub mod HeldRegisters
pub mod RxRingMade
pub mod TxRingMade
pub mod StartOrder
