pub mod Script
pub mod Bad
pub mod Sizes
pub mod Profiles
