pub mod Overs
pub mod Writes
