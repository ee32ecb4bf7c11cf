pub mod Patterns
pub mod Table
pub mod Standing
