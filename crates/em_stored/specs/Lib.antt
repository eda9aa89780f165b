pub mod Form
pub mod Machines
pub mod Stored
pub mod Tests
