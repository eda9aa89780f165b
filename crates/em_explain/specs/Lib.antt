pub mod Explain
pub mod LookText
pub mod Looked
pub mod Undone
pub mod Watched
pub mod Why
