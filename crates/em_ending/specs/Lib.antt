pub mod Ending
pub mod Playing
