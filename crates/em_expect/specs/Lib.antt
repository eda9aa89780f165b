pub mod Agreement
pub mod Difference
