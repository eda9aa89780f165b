pub mod Names
pub mod Bits
pub mod Near
pub mod Phy
