pub mod Arrivals
pub mod Moment
pub mod Sent
