pub mod Registers
pub mod Wire
pub mod Output
