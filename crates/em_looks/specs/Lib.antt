pub mod Numbers
pub mod Sights
pub mod Frames
pub mod Views
pub mod Effects
