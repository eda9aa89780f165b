pub mod Digits
pub mod Source
pub mod Kept
pub mod Head
pub mod ReadBack
