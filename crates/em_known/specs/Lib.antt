pub mod Causes
pub mod Bits
