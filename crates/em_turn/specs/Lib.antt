pub mod Turn
pub mod Planned
