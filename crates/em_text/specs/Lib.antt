pub mod Digits
pub mod Lines
pub mod Words
pub mod Numbers
pub mod Writer
pub mod Reader
