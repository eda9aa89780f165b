pub mod KeptRun
pub mod Runner
pub mod Summary
