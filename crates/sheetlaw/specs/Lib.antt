pub mod Rivals
pub mod Rows
pub mod Calls
pub mod Step
pub mod Runs
pub mod Law
pub mod NextRow
