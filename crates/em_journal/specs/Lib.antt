pub mod Budget
pub mod Records
pub mod History
pub mod Refusal
pub mod Settings
pub mod View
pub mod Record
pub mod Copies
