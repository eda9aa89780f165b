pub mod Fate
pub mod Reached
pub mod Pieces
pub mod Inert
