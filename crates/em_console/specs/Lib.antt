pub mod Fault
pub mod LineConsole
pub mod Objects
pub mod Reading
pub mod Serving
pub mod Standing
pub mod Turns
