pub mod Text
pub mod Strings
