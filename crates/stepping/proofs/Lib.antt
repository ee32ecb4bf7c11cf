pub mod Traces
pub mod Admitting
pub mod Telling
pub mod Filing
